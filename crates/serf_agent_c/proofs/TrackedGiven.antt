-- Whatever the getters may have returned to a host was handed out by a call.
use Rattle.serf_agent_c.proofs.Names.{Add, All, All-append, All-nil, All-weaker, Bool, Burst, BurstCall, BurstOutcome, CallResult, CloseDue, Code, Compact, Contains, Contains-append_left, Contains-append_right, EventBody, EventOut, Export, Fire, Forget, Host, IdealAgent, Follows, KeepsBurst, List, LocalState, Merge, Next, None, Observe, Option, Query, Receive, Respond, Save, Says, Session, Some, TimedEntry, [], answers_of, ap, append-nil, append_assoc, call_result_of, cond, drop, event_entry, events_in, false, flat_map, gives, is_ready, length, map, kind_of, pending_bytes, refl, reply_of, settled, subst, sym, text_at, true, waiting_at, inl, inr, ℕ, ◌&&◌, ◌++◌, ◌||◌, ◌∙◌, ◌∷◌, ◌≡◌, DeliveredQuery}
use Rattle.std.proofs.lemmas.List.Elements.{All-contains_itself}
use Rattle.serf_agent_c.specs.Bursts.{Follows as FollowsNext}
use Rattle.serf_agent_c.specs.TrackedHosts.{MayTrack, TrackedDeed, TrackedHost, first_tracked, handed_by, result_events, tracked}
use Rattle.serf_agent_c.specs.TrackedHosts as tracks
use Rattle.serf_agent_c.specs.TrackedPromises.{GivesHanded, all_handed, handed_of}
use Rattle.serf_agent_c.specs.declared.call_result.CallResult.TheVariants as call_results
use Rattle.serf_agent_c.proofs.HandedOnce.{Given, call_result_entries, in-two, made-now, nothing, ◌⊕◌}
use Rattle.serf_agent_c.proofs.HostLaws.{want}
use Rattle.serf_agent_c.proofs.HostedCalls.{Below, IsHosted, due, queue_entries}
use Rattle.serf_agent_c.proofs.HostedLaws.{due-kind}
use Rattle.serf_agent_c.proofs.TrackedBegins.{after_call, all_events, queue-events, shown-events}
use Rattle.serf_agent_c.proofs.TrackedLaws.{Good, first, step}
use Rattle.serf_agent_c.proofs.TrackedLines.{Handling}

abbrev Entries : Type 0
Entries = List (TimedEntry EventBody)

abbrev Holds : Type 1
Holds = TimedEntry EventBody → Type 0

-- ---- what is due, in two parts

due-all : (P : Holds) (b : Bool) (g : CallResult) (xs : List BurstOutcome) → (b ≡ true → All P (map event_entry (events_in g))) → All P (queue_entries xs).events → All P (cond b (call_result_entries g) nothing ⊕ queue_entries xs).events
due-all P true g xs result queue = All-append P (map event_entry (events_in g)) (queue_entries xs).events (result refl) queue
due-all P false g xs result queue = queue

queue-part : (P : Holds) (b : Bool) (g : CallResult) (xs : List BurstOutcome) → All P (cond b (call_result_entries g) nothing ⊕ queue_entries xs).events → All P (queue_entries xs).events
queue-part P true g xs all = (in-two P (map event_entry (events_in g)) (queue_entries xs).events all).back
queue-part P false g xs all = all

result-part : (P : Holds) (b : Bool) (g : CallResult) (xs : List BurstOutcome) → b ≡ true → All P (cond b (call_result_entries g) nothing ⊕ queue_entries xs).events → All P (map event_entry (events_in g))
result-part P true g xs is all = (in-two P (map event_entry (events_in g)) (queue_entries xs).events all).front
result-part P false g xs is all = absurd (cc is)

queue-of : (P : Holds) (h : Host) → All P (due h).events → All P (queue_entries h.session.burst.items).events
queue-of P h all = queue-part P h.fresh h.session.call_result h.session.burst.items all

same-queue : (P : Holds) (h : Host) (t : Session) → t.burst.items ≡ h.session.burst.items → All P (due h).events → All P (queue_entries t.burst.items).events
same-queue P h t same all = subst (λ (xs : List BurstOutcome). All P (queue_entries xs).events) (sym same) (queue-of P h all)

same-result : (P : Holds) (h : Host) (t : Session) → t.call_result ≡ h.session.call_result → h.fresh ≡ true → All P (due h).events → All P (map event_entry (events_in t.call_result))
same-result P h t same fresh all = subst (λ (g : CallResult). All P (map event_entry (events_in g))) (sym same) (result-part P h.fresh h.session.call_result h.session.burst.items fresh all)

or-first : (a b : Bool) → b ≡ false → (a || b) ≡ true → a ≡ true
or-first true b none is = refl
or-first false b none is = sym none ∙ is

and-false : (a b : Bool) → b ≡ false → (a && b) ≡ false
and-false true b none = none
and-false false b none = refl

-- ---- after a call

unmade : (P : Holds) (h : Host) (e : Export) (t : Session) (code : Code) → is_ready h.session ≡ false → t ≡ h.session → All P (due h).events → All P (due (after_call h e t code)).events
unmade P h e t code unready same all =
    due-all P (after_call h e t code).fresh t.call_result t.burst.items
    (λ is. same-result P h t (ap (λ (u : Session). u.call_result) same) (or-first h.fresh (gives e && is_ready h.session) (and-false (gives e) (is_ready h.session) unready) is) all)
    (same-queue P h t (ap (λ (u : Session). u.burst.items) same) all)

beside-it : (P : Holds) (h : Host) (e : Export) (t : Session) (code : Code) → gives e ≡ false → t.call_result ≡ h.session.call_result → All P (queue_entries t.burst.items).events → All P (due h).events → All P (due (after_call h e t code)).events
beside-it P h e t code none same queue all =
    due-all P (after_call h e t code).fresh t.call_result t.burst.items
    (λ is. same-result P h t same (or-first h.fresh (gives e && is_ready h.session) (ap (λ (b : Bool). b && is_ready h.session) none) is) all)
    queue

-- a call with a result, which hands out these events
made : (P : Holds) (h : Host) (e : Export) (t : Session) (code : Code) → (is_ready h.session ≡ false → t ≡ h.session) → (is_ready h.session ≡ true → KeepsBurst h.session t) → (is_ready h.session ≡ true → All P (map event_entry (events_in t.call_result))) → All P (due h).events → All P (due (after_call h e t code)).events
made P h e t code waits keeps result all = by (is_ready h.session) refl
  where
    by : (b : Bool) → is_ready h.session ≡ b → All P (due (after_call h e t code)).events
    by false is = unmade P h e t code is (waits is) all
    by true is = due-all P (after_call h e t code).fresh t.call_result t.burst.items (λ fresh. result is) (same-queue P h t (keeps is) all)

handed-result : (P : Holds) (s t : Session) → All P (result_events s t) → is_ready s ≡ true → All P (map event_entry (events_in t.call_result))
handed-result P s t all ready = subst (All P) (sym (made-now (is_ready s) (map event_entry (events_in t.call_result)) ready)) all

no-events : (P : Holds) (t : Session) → events_in t.call_result ≡ [] → All P (map event_entry (events_in t.call_result))
no-events P t none = subst (λ (es : List EventOut). All P (map event_entry es)) (sym none) (All-nil P)

gives-no : (P : Holds) (t : Session) (g : CallResult) → events_in g ≡ [] → t.call_result ≡ g → All P (map event_entry (events_in t.call_result))
gives-no P t g none is = no-events P t (ap events_in is ∙ none)

-- outcomes that wait
grow-all : (P : Holds) (xs ys : List BurstOutcome) → All P (flat_map (λ x. map event_entry (events_in (call_result_of x))) xs) → All P (flat_map (λ x. map event_entry (events_in (call_result_of x))) (drop (length xs) (xs ++ ys))) → All P (flat_map (λ x. map event_entry (events_in (call_result_of x))) (xs ++ ys))
grow-all P [] ys front back = back
grow-all P (x ∷ xs) ys front back =
    let one : Entries = map event_entry (events_in (call_result_of x)) in
    let rest : Entries = flat_map (λ y. map event_entry (events_in (call_result_of y))) xs in
    let two = in-two P one rest front in
    All-append P one (flat_map (λ y. map event_entry (events_in (call_result_of y))) (xs ++ ys)) two.front (grow-all P xs ys two.back back)

burst-queue : (P : Holds) (s t : Session) (ys : List BurstOutcome) → t.burst.items ≡ s.burst.items ++ ys → All P (queue_entries s.burst.items).events → All P (flat_map (λ x. map event_entry (events_in (call_result_of x))) (drop (length s.burst.items) t.burst.items)) → All P (queue_entries t.burst.items).events
burst-queue P s t ys is queue handed =
    subst (All P) (sym (queue-events t.burst.items))
    (subst (λ (xs : List BurstOutcome). All P (flat_map (λ x. map event_entry (events_in (call_result_of x))) xs)) (sym is)
    (grow-all P s.burst.items ys (subst (All P) (queue-events s.burst.items) queue) (subst (λ (xs : List BurstOutcome). All P (flat_map (λ x. map event_entry (events_in (call_result_of x))) (drop (length s.burst.items) xs))) is handed)))

bursted-due : (P : Holds) (h : Host) (call : BurstCall) (t : Session) (code : Code) → IsHosted h → Says (Burst call) h.session t code → All P (due h).events → All P (handed_by (Burst call) h.session t) → All P (due (after_call h (Burst call) t code)).events
bursted-due P h call t code k says all handed = beside-it P h (Burst call) t code refl says.0.0 queue all
  where
    s : Session
    s = h.session

    f : Follows k.inside.agent h.file h.session
    f = k.inside.follows

    grown : (ys : List BurstOutcome) → t.burst.items ≡ s.burst.items ++ ys → All P (queue_entries t.burst.items).events
    grown ys is = burst-queue P s t ys is (queue-of P h all) handed

    queue : All P (queue_entries t.burst.items).events
    queue = elim (want code) [
      | inl out ↦ same-queue P h t (says.1 out).1 all
      | inr other ↦
          (let i : IdealAgent = k.inside.agent in
          let b = says.2 other i [] s (record { state = f.state; sound = f.sound; calm = f.calm; flushed = f.flushed; outcomes = sym (append-nil s.burst.items); lines = sym (append-nil (pending_bytes s.agent.device s.written)) }) in
          grown (answers_of i (call ∷ [])) b.outcomes)
    ]

next-due : (P : Holds) (h : Host) (t : Session) (code : Code) (old now : ℕ) → Says (Next old now) h.session t code → All P (due h).events → All P (due (after_call h (Next old now) t code)).events
next-due P h t code old now says all = by (is_ready h.session) refl
  where
    p : Host
    p = after_call h (Next old now) t code

    reads : (xs : List BurstOutcome) → All P (queue_entries xs).events → FollowsNext xs t code old now → All P (due p).events
    reads [] queue next = due-all P p.fresh t.call_result t.burst.items (λ fresh. no-events P t next.1.events) (subst (λ (xs : List BurstOutcome). All P (queue_entries xs).events) (sym next.2) (All-nil P))
    reads (x ∷ xs) queue next =
        let two = in-two P (map event_entry (events_in (call_result_of x))) (queue_entries xs).events queue in
        due-all P p.fresh t.call_result t.burst.items (λ fresh. subst (λ (g : CallResult). All P (map event_entry (events_in g))) (sym next.1) two.front) (subst (λ (ys : List BurstOutcome). All P (queue_entries ys).events) (sym next.2) two.back)

    by : (b : Bool) → is_ready h.session ≡ b → All P (due p).events
    by false is = unmade P h (Next old now) t code is (says.0 is).1 all
    by true is = elim (want code) [
      | inl out ↦ (let r = (says.3 is).0 out in due-all P p.fresh t.call_result t.burst.items (λ fresh. no-events P t r.0.0.events) (same-queue P h t r.1 all))
      | inr other ↦ reads h.session.burst.items (queue-of P h all) ((says.3 is).1 other)
    ]

closed-none : (P : Holds) (g : CallResult) → kind_of g ≡ 13 → All P (map event_entry (events_in g))
closed-none P g is = subst (All P) (sym (ap (λ (x : Given). x.events) (due-kind g is))) (All-nil P)

found-none : (P : Holds) (t : Session) (o : Option DeliveredQuery) → ((o ≡ None) → All P (map event_entry (events_in t.call_result))) → ((q : DeliveredQuery) → o ≡ Some q → All P (map event_entry (events_in t.call_result))) → All P (map event_entry (events_in t.call_result))
found-none P t None none some = none refl
found-none P t (Some q) none some = some q refl

called-due : (P : Holds) (h : Host) (e : Export) (t : Session) (code : Code) → IsHosted h → Says e h.session t code → All P (due h).events → All P (handed_by e h.session t) → All P (due (after_call h e t code)).events
called-due P h (Fire name payload flag) t code k says all handed = made P h (Fire name payload flag) t code (λ unready. (says.0.0 unready).1) (λ ready. (says.1 ready).burst) (handed-result P h.session t handed) all
called-due P h (Receive tags now packet) t code k says all handed = made P h (Receive tags now packet) t code (λ unready. (says.0.0 unready).1) (λ ready. (says.1 ready).burst) (handed-result P h.session t handed) all
called-due P h (Merge packet join) t code k says all handed = made P h (Merge packet join) t code (λ unready. (says.0 unready).1) (λ ready. (says.1 ready).burst) (handed-result P h.session t handed) all
called-due P h (Query now id name payload addr params) t code k says all handed = made P h (Query now id name payload addr params) t code (λ unready. (says.0.0 unready).1) (λ ready. (says.1 ready).5)
    (λ ready. elim (want code) [
      | inl out ↦ no-events P t (says.0.1 out).1.0.events
      | inr other ↦ (let g = says.0.2 ready other in gives-no P t (call_results.QueryFired g.0) refl g.1)
    ]) all
called-due P h Save t code k says all handed = made P h Save t code (λ unready. (says.0.0 unready).1) (λ ready. (says.1 ready).burst)
    (λ ready. elim (want code) [
      | inl out ↦ no-events P t (says.0.1 out).1.0.events
      | inr other ↦ (let g = says.0.2 ready other in gives-no P t (call_results.LineAppended g.0) refl g.1)
    ]) all
called-due P h Compact t code k says all handed = made P h Compact t code (λ unready. (says.0 unready).1) (λ ready. (says.4 ready).5)
    (λ ready. elim (want code) [
      | inl out ↦ no-events P t (says.1 out).2.0.events
      | inr other ↦ (let g = says.2 ready other in gives-no P t (call_results.LineAppended g.0) refl g.1)
    ]) all
called-due P h (CloseDue now closed) t code k says all handed = made P h (CloseDue now closed) t code (λ unready. (says.0 unready).1) (λ ready. (says.1 ready).4)
    (λ ready. elim (want code) [
      | inl out ↦ no-events P t (says.2 out).1.0.events
      | inr other ↦ closed-none P t.call_result (says.3 ready other).3
    ]) all
called-due P h (Observe time) t code k says all handed = by (is_ready h.session) refl
  where
    by : (b : Bool) → is_ready h.session ≡ b → All P (due (after_call h (Observe time) t code)).events
    by false is = unmade P h (Observe time) t code is (says.0 is).1 all
    by true is = let rest = says.1 is in beside-it P h (Observe time) t code refl rest.0 (same-queue P h t rest.6 all) all
called-due P h (Respond number now payload) t code k says all handed = made P h (Respond number now payload) t code (λ unready. (says.0 unready).1) (λ ready. (says.2 ready).6)
    (λ ready. elim (want code) [
      | inl out ↦ no-events P t ((says.2 ready).2 out).0.events
      | inr other ↦ found-none P t (waiting_at number (settled h.session).waiting) (λ at. no-events P t ((says.2 ready).1 ((says.2 ready).0 at other)).0.events) (λ q at. gives-no P t (call_results.Replied (reply_of q now payload)) refl (says.3 ready other q at).0)
    ]) all
called-due P h (Forget number) t code k says all handed = made P h (Forget number) t code (λ unready. (says.0 unready).1) (λ ready. (says.2 ready).6)
    (λ ready. elim (want code) [
      | inl out ↦ no-events P t ((says.2 ready).2 out).0.events
      | inr other ↦ found-none P t (waiting_at number (settled h.session).waiting) (λ at. no-events P t ((says.2 ready).1 ((says.2 ready).0 at other)).0.events) (λ q at. no-events P t (says.3 ready other q at).1.events)
    ]) all
called-due P h LocalState t code k says all handed = made P h LocalState t code (λ unready. (says.0 unready).1) (λ ready. (says.1 ready).5)
    (λ ready. elim (want code) [
      | inl out ↦ no-events P t (says.2 out).1.0.events
      | inr other ↦ (let g = says.3 ready other in gives-no P t (call_results.State g.0) refl g.1)
    ]) all
called-due P h (Burst call) t code k says all handed = bursted-due P h call t code k says all handed
called-due P h (Next old now) t code k says all handed = next-due P h t code old now says all
called-due P h Add t code k says all handed = beside-it P h Add t code refl says.1 (same-queue P h t says.4 all) all

-- ---- all that a host does

given-step : (P : Holds) (name : List ℕ) (h : TrackedHost) (deed : TrackedDeed) → Good h → tracks.MayDo name h deed → All P (all_events h.host) → All P (handed_of h deed) → All P (all_events (tracks.did h deed).host)
given-step P name h (tracks.Calls e t code) g may all handed =
    let p = after_call h.host e t code in
    let two = in-two P h.host.given (due h.host).events all in
    subst (All P) (sym (shown-events p)) (All-append P h.host.given (due p).events two.front (called-due P h.host e t code g.hosted may.0.0 two.back handed))
given-step P name h (tracks.Writes t) g may all handed =
    let p : Host = record h.host { session = t; file = text_at h.host.file h.host.session; new = None } in
    let two = in-two P h.host.given (due h.host).events all in
    let more : All P (due p).events = due-all P h.host.fresh t.call_result t.burst.items (λ fresh. same-result P h.host t may.0.3 fresh two.back) (same-queue P h.host t may.0.4 two.back) in
    subst (All P) (sym (shown-events p)) (All-append P h.host.given (due p).events two.front more)
given-step P name h (tracks.Renames time more) g may all handed = all
given-step P name h (tracks.Begins e) g may all handed = all
given-step P name h (tracks.Ends e) g may all handed = all
given-step P name h (tracks.EndsUpTo time) g may all handed = all
given-step P name h (tracks.Appends lines) g may all handed = all
given-step P name h (tracks.Dies settings tail t) g may all handed =
    let two = in-two P h.host.given (due h.host).events all in
    All-append P h.host.given (queue_entries t.burst.items).events two.front (subst (λ (xs : List BurstOutcome). All P (queue_entries xs).events) (sym may.3.8) (All-nil P))

given-all : (below : Below) (laws : Handling) (name : List ℕ) (deeds : List TrackedDeed) (h : TrackedHost) (before : Entries) → Good h → MayTrack name h deeds → All (Contains before) (all_events h.host) → All (Contains (before ++ all_handed h deeds)) (all_events (tracked h deeds).host)
given-all below laws name [] h before g may all = subst (λ (l : Entries). All (Contains l) (all_events h.host)) (sym (append-nil before)) all
given-all below laws name (deed ∷ rest) h before g may all =
    let handed = handed_of h deed in
    let wider : All (Contains (before ++ handed)) (all_events h.host) = All-weaker (Contains before) (Contains (before ++ handed)) (λ x there. Contains-append_left before handed x there) (all_events h.host) all in
    let new : All (Contains (before ++ handed)) handed = All-weaker (Contains handed) (Contains (before ++ handed)) (λ x there. Contains-append_right before handed x there) handed (All-contains_itself handed) in
    subst (λ (l : Entries). All (Contains l) (all_events (tracked (tracks.did h deed) rest).host)) (append_assoc before handed (all_handed (tracks.did h deed) rest))
    (given-all below laws name rest (tracks.did h deed) (before ++ handed) (step below laws name h deed g may.0) may.1 (given-step (Contains (before ++ handed)) name h deed g may.0 wider new))

pub gives_handed : Below → Handling → GivesHanded
gives_handed below laws = λ name settings text t deeds lives.
    let start = first_tracked text t in
    let end = tracked start deeds in
    let none : All (Contains []) (all_events start.host) = subst (λ (xs : List BurstOutcome). All (Contains []) (queue_entries xs).events) (sym lives.fresh.8) (All-nil (Contains [])) in
    let all = given-all below laws name deeds start [] (first below laws name settings text t deeds lives) lives.may none in
    (in-two (Contains (all_handed start deeds)) end.host.given (due end.host).events all).front

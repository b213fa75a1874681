-- A host begins each event at most once in all its lives.
use Rattle.serf_agent_c.proofs.Names.{All, All-append, All-cons, All-contains, All-filter, All-head, All-nil, All-tail, All-weaker, AllPairs, Add, Bool, Burst, BurstOutcome, Calls, CloseDue, Code, Compact, Contains, Contains-append_left, Contains-append_right, EventBody, Export, Fire, Forget, Host, List, LocalState, Merge, Next, Observe, Query, Receive, Respond, Save, Session, Some, TimedEntry, TimedEvent, [], and_from, and_parts, ap, append-nil, append_assoc, arith, bytes_eq-Decides, call_result_of, cond, drop, eq-eqb, eqb-true, event_entry, events_in, false, flat_map, gives, is_ready, length, map, not, refl, replacing, shown, subst, suc, sym, true, zero, ℕ, ◌&&◌, ◌++◌, ◌+◌, ◌<◌, ◌==◌, ◌||◌, ◌∙◌, ◌∷◌, ◌≡◌, ◌≢◌, nat_lt}
use Rattle.std.proofs.lemmas.List.{length-append}
use Rattle.std.proofs.lemmas.List.Elements.{All-contains_itself, All-map}
use Rattle.std.specs.Str.{bytes_eq}
use Rattle.serf_snapshot.specs.Clocks.{lines_of}
use Rattle.serf_snapshot.specs.HandlerLaws.{CanBeWritten, Waits}
use Rattle.serf_snapshot.specs.Handlers.{begun_line, done_up_to_line, done_up_to_text, handed_of_line, is_open, mark_begun, mark_begun_if, mark_handed, open_after_lines, open_event, open_events, same_event}
use Rattle.serf_snapshot.specs.declared.handlers.OpenEvent.{OpenEvent}
use Rattle.serf_agent_c.specs.TrackedHosts.{MayTrack, TrackedDeed, TrackedHost, counted, event_of_entry, first_tracked, handed_by, mark_all_handed, result_events, tracked}
use Rattle.serf_agent_c.specs.TrackedHosts as tracks
use Rattle.serf_agent_c.specs.TrackedPromises.{AllOpenNew, Along, BeginsOnce, BeginsWaiting, HandsOutNew, OpensNew, begun_by, begun_in}
use Rattle.serf_agent_c.proofs.HandedOnce.{call_result_entries, nothing, pairs-append, pairs-parts, ◌⊕◌}
use Rattle.serf_agent_c.proofs.HostedCalls.{Below, IsHosted, both-true, due, given_to, queue_entries, told}
use Rattle.serf_agent_c.proofs.HostedLaws.{does}
use Rattle.serf_agent_c.proofs.TrackedLaws.{Good, all-good, first, own-at, step}
use Rattle.serf_agent_c.proofs.TrackedLines.{Handling, Hands, Reads, is_whole-push, open-joined, reads-begun, reads-hands}

abbrev Entries : Type 0
Entries = List (TimedEntry EventBody)

both-all : {A : Type 0} (P Q : A → Type 0) (xs : List A) → All P xs → All Q xs → All (λ x. P x × Q x) xs
both-all {A} P Q [] p q = All-nil (λ (x : A). P x × Q x)
both-all {A} P Q (x ∷ xs) p q = All-cons (λ (x : A). P x × Q x) x xs (All-head P x xs p, All-head Q x xs q) (both-all P Q xs (All-tail P x xs p) (All-tail Q x xs q))

-- ---- what a call hands out is new

-- the events that a host was given, or that are still due
abbrev pub all_events : Host → Entries
all_events p = (given_to p ⊕ due p).events

pub shown-events : (p : Host) → all_events (shown p) ≡ all_events p
shown-events p = by (p.fresh && is_ready p.session) refl
  where
    by : (b : Bool) → (p.fresh && is_ready p.session) ≡ b → all_events (cond b (told p) p) ≡ all_events p
    by false is = refl
    by true is =
        let fresh = (both-true p.fresh (is_ready p.session) is).0 in
        let result : Entries = map event_entry (events_in p.session.call_result) in
        let queue : Entries = (queue_entries p.session.burst.items).events in
        append_assoc p.given result queue ∙ ap (λ (b : Bool). p.given ++ ((cond b (call_result_entries p.session.call_result) nothing).events ++ queue)) (sym fresh)

pub queue-events : (xs : List BurstOutcome) → (queue_entries xs).events ≡ flat_map (λ x. map event_entry (events_in (call_result_of x))) xs
queue-events [] = refl
queue-events (x ∷ xs) = ap (λ (l : Entries). map event_entry (events_in (call_result_of x)) ++ l) (queue-events xs)

later-ones : (n : ℕ) (xs : List BurstOutcome) (P : TimedEntry EventBody → Type 0) → All P (flat_map (λ x. map event_entry (events_in (call_result_of x))) xs) → All P (flat_map (λ x. map event_entry (events_in (call_result_of x))) (drop n xs))
later-ones zero xs P all = all
later-ones (suc n) [] P all = all
later-ones (suc n) (x ∷ xs) P all = later-ones n xs P (back (map event_entry (events_in (call_result_of x))) all)
  where
    back : (front : Entries) → All P (front ++ flat_map (λ y. map event_entry (events_in (call_result_of y))) xs) → All P (flat_map (λ y. map event_entry (events_in (call_result_of y))) xs)
    back [] all = all
    back (y ∷ front) all = back front (All-tail P y (front ++ flat_map (λ y. map event_entry (events_in (call_result_of y))) xs) all)

abbrev pub after_call : Host → Export → Session → Code → Host
after_call h e t code = record h { session = t; new = replacing h.new e t code; fresh = h.fresh || (gives e && is_ready h.session) }

result-due : (h : Host) (e : Export) (t : Session) (code : Code) → gives e ≡ true → All (Contains (due (after_call h e t code)).events) (result_events h.session t)
result-due h e t code given = by (is_ready h.session) refl
  where
    p : Host
    p = after_call h e t code

    result : Entries
    result = map event_entry (events_in t.call_result)

    or-true : (a b : Bool) → b ≡ true → (a || b) ≡ true
    or-true true b is = refl
    or-true false b is = is

    by : (b : Bool) → is_ready h.session ≡ b → All (Contains (due p).events) (cond b result [])
    by false is = All-nil (Contains (due p).events)
    by true is =
        let fresh : p.fresh ≡ true = or-true h.fresh (gives e && is_ready h.session) (and_from (gives e) (is_ready h.session) given is) in
        let queue : Entries = (queue_entries t.burst.items).events in
        let same : (due p).events ≡ result ++ queue = ap (λ (b : Bool). (cond b (call_result_entries t.call_result) nothing).events ++ queue) fresh in
        All-weaker (Contains result) (Contains (due p).events) (λ x there. subst (λ (l : Entries). Contains l x) (sym same) (Contains-append_left result queue x there)) result (All-contains_itself result)

handed-due : (h : Host) (e : Export) (t : Session) (code : Code) → All (Contains (due (after_call h e t code)).events) (handed_by e h.session t)
handed-due h (Fire name payload flag) t code = result-due h (Fire name payload flag) t code refl
handed-due h (Receive tags now packet) t code = result-due h (Receive tags now packet) t code refl
handed-due h (Merge packet join) t code = result-due h (Merge packet join) t code refl
handed-due h (Burst call) t code =
    let p = after_call h (Burst call) t code in
    let queue : Entries = (queue_entries t.burst.items).events in
    let front : Entries = (cond p.fresh (call_result_entries t.call_result) nothing).events in
    let inside : All (Contains (front ++ queue)) queue = All-weaker (Contains queue) (Contains (front ++ queue)) (λ x there. Contains-append_right front queue x there) queue (All-contains_itself queue) in
    later-ones (length h.session.burst.items) t.burst.items (Contains (front ++ queue)) (subst (All (Contains (front ++ queue))) (queue-events t.burst.items) inside)
handed-due h (Query now id name payload addr params) t code = All-nil (Contains (due (after_call h (Query now id name payload addr params) t code)).events)
handed-due h Save t code = All-nil (Contains (due (after_call h Save t code)).events)
handed-due h Compact t code = All-nil (Contains (due (after_call h Compact t code)).events)
handed-due h (CloseDue now closed) t code = All-nil (Contains (due (after_call h (CloseDue now closed) t code)).events)
handed-due h (Observe time) t code = All-nil (Contains (due (after_call h (Observe time) t code)).events)
handed-due h (Respond number now payload) t code = All-nil (Contains (due (after_call h (Respond number now payload) t code)).events)
handed-due h (Forget number) t code = All-nil (Contains (due (after_call h (Forget number) t code)).events)
handed-due h LocalState t code = All-nil (Contains (due (after_call h LocalState t code)).events)
handed-due h (Next old now) t code = All-nil (Contains (due (after_call h (Next old now) t code)).events)
handed-due h Add t code = All-nil (Contains (due (after_call h Add t code)).events)

calls-new : (below : Below) (name : List ℕ) (h : TrackedHost) (e : Export) (t : Session) (code : Code) → IsHosted h.host → tracks.MayDo name h (tracks.Calls e t code) → All (λ x. Contains h.host.given x → ⊥) (handed_by e h.host.session t)
calls-new below name h e t code hosted may =
    let p = after_call h.host e t code in
    let next : IsHosted (shown p) = does below name h.host (Calls e t code) hosted may.0 in
    let once : AllPairs (λ x y. x ≢ y) (h.host.given ++ (due p).events) = subst (λ (l : Entries). AllPairs (λ x y. x ≢ y) l) (shown-events p) next.inside.once.0.once in
    let across = (pairs-parts (λ x y. x ≢ y) h.host.given (due p).events once).across in
    All-weaker (Contains (due p).events) (λ (x : TimedEntry EventBody). Contains h.host.given x → ⊥)
    (λ x there given. All-contains (λ (y : TimedEntry EventBody). x ≢ y) (due p).events x (All-contains (λ (y : TimedEntry EventBody). All (λ (z : TimedEntry EventBody). y ≢ z) (due p).events) h.host.given x across given) there refl)
    (handed_by e h.host.session t) (handed-due h.host e t code)

pub hands_out_new : Below → Handling → HandsOutNew
hands_out_new below laws = λ name settings text first_session t deeds e code lives may.
    let h = tracked (first_tracked text first_session) deeds in
    let g = all-good below laws name (first_tracked text first_session) deeds (first below laws name settings text first_session deeds lives) lives.may in
    calls-new below name h e t code g.hosted may

-- ---- an event that doesn't wait

abbrev DoesNotWait : TimedEvent → List OpenEvent → Type 0
DoesNotWait e open_list = All (λ o. o ≢ open_event e false) open_list

same-itself : (e : TimedEvent) → same_event e e ≡ true
same-itself e = and_from _ _ (eq-eqb e.time e.time refl) (and_from _ _ ((bytes_eq-Decides e.name e.name).1 refl) ((bytes_eq-Decides e.payload e.payload).1 refl))

other-waits : (x e : TimedEvent) → x ≢ e → open_event x false ≢ open_event e false
other-waits x e other same = other (ap (λ (o : OpenEvent). o.event) same)

begun-waits : (x e : TimedEvent) → open_event x true ≢ open_event e false
begun-waits x e same = let no : true ≡ false = ap (λ (o : OpenEvent). o.has_begun) same in cc

waits-handed : (x e : TimedEvent) (open_list : List OpenEvent) → x ≢ e → DoesNotWait e open_list → DoesNotWait e (mark_handed x open_list)
waits-handed x e open_list other none = by (is_open x open_list)
  where
    by : (b : Bool) → DoesNotWait e (cond b open_list (open_list ++ open_event x false ∷ []))
    by true = none
    by false = All-append (λ (o : OpenEvent). o ≢ open_event e false) open_list (open_event x false ∷ []) none (All-cons (λ (o : OpenEvent). o ≢ open_event e false) (open_event x false) [] (other-waits x e other) (All-nil (λ (o : OpenEvent). o ≢ open_event e false)))

waits-all : (es : Entries) (e : TimedEvent) (open_list : List OpenEvent) → All (λ x. event_of_entry x ≢ e) es → DoesNotWait e open_list → DoesNotWait e (mark_all_handed es open_list)
waits-all [] e open_list others none = none
waits-all (x ∷ es) e open_list others none =
    waits-all es e (mark_handed (event_of_entry x) open_list) (All-tail (λ (x : TimedEntry EventBody). event_of_entry x ≢ e) x es others)
    (waits-handed (event_of_entry x) e open_list (All-head (λ (x : TimedEntry EventBody). event_of_entry x ≢ e) x es others) none)

waits-begun : (x e : TimedEvent) (open_list : List OpenEvent) → DoesNotWait e open_list → DoesNotWait e (mark_begun x open_list)
waits-begun x e open_list none = All-map (λ (o : OpenEvent). o ≢ open_event e false) (mark_begun_if x) open_list (All-weaker (λ (o : OpenEvent). o ≢ open_event e false) (λ (o : OpenEvent). mark_begun_if x o ≢ open_event e false) (λ o is. one o (same_event x o.event) is) open_list none)
  where
    one : (o : OpenEvent) (b : Bool) → o ≢ open_event e false → cond b (open_event o.event true) o ≢ open_event e false
    one o true is = begun-waits o.event e
    one o false is = is

begun-itself : (e : TimedEvent) (open_list : List OpenEvent) → DoesNotWait e (mark_begun e open_list)
begun-itself e [] = All-nil (λ (o : OpenEvent). o ≢ open_event e false)
begun-itself e (o ∷ rest) = All-cons (λ (o : OpenEvent). o ≢ open_event e false) (mark_begun_if e o) (mark_begun e rest) (one (same_event e o.event) refl) (begun-itself e rest)
  where
    one : (b : Bool) → same_event e o.event ≡ b → cond b (open_event o.event true) o ≢ open_event e false
    one true is = begun-waits o.event e
    one false is = λ same. let no : true ≡ false = sym (same-itself e) ∙ ap (λ (x : OpenEvent). same_event e x.event) (sym same) ∙ is in cc

same-is : (a b : TimedEvent) → same_event a b ≡ true → a ≡ b
same-is a b h =
    let p = and_parts (a.time == b.time) (bytes_eq a.name b.name && bytes_eq a.payload b.payload) h in
    let q = and_parts (bytes_eq a.name b.name) (bytes_eq a.payload b.payload) p.1 in
    let time : a.time ≡ b.time = eqb-true a.time b.time p.0 in
    let name : a.name ≡ b.name = (bytes_eq-Decides a.name b.name).0 q.0 in
    let payload : a.payload ≡ b.payload = (bytes_eq-Decides a.payload b.payload).0 q.1 in
    ap (λ (t : ℕ). record { time = t; name = a.name; payload = a.payload }) time
    ∙ ap (λ (n : List ℕ). record { time = b.time; name = n; payload = a.payload }) name
    ∙ ap (λ (p : List ℕ). record { time = b.time; name = b.name; payload = p }) payload

-- a line that says that it has begun changes nothing then
begun-already : (e : TimedEvent) (open_list : List OpenEvent) → DoesNotWait e open_list → mark_begun e open_list ≡ open_list
begun-already e [] none = refl
begun-already e (o ∷ rest) none =
    ap (λ (x : OpenEvent). x ∷ mark_begun e rest) (one (same_event e o.event) refl)
    ∙ ap (λ (l : List OpenEvent). o ∷ l) (begun-already e rest (All-tail (λ (o : OpenEvent). o ≢ open_event e false) o rest none))
  where
    has : (b : Bool) → o.has_begun ≡ b → same_event e o.event ≡ true → open_event o.event true ≡ o
    has true begun same = ap (λ (b : Bool). open_event o.event b) (sym begun)
    has false waits same = absurd (All-head (λ (o : OpenEvent). o ≢ open_event e false) o rest none (ap (λ (b : Bool). open_event o.event b) waits ∙ ap (λ (x : TimedEvent). open_event x false) (sym (same-is e o.event same))))

    one : (b : Bool) → same_event e o.event ≡ b → cond b (open_event o.event true) o ≡ o
    one true same = has o.has_begun refl same
    one false other = refl

abbrev HandsNone : TimedEvent → List (List ℕ) → Type 0
HandsNone e lines = All (λ line. handed_of_line line ≢ Some e) lines

-- what a tail leaves, if none of its lines hands out the event
waits-tail : (laws : Handling) (file tail : List ℕ) (open_list : List OpenEvent) (e : TimedEvent) → Reads file open_list → CanBeWritten e → DoesNotWait e open_list → HandsNone e (lines_of tail) → DoesNotWait e (open_after_lines open_list (lines_of tail))
waits-tail laws file tail open_list e r can none others =
    let begun : List ℕ = begun_line e.time e.name e.payload in
    let after : List OpenEvent = open_after_lines open_list (lines_of tail) in
    let reports : open_events (file ++ (begun ++ tail)) ≡ after =
    ap open_events (sym (append_assoc file begun tail))
    ∙ open-joined (file ++ begun) tail (mark_begun e open_list) (reads-begun laws file open_list e r can)
    ∙ ap (λ (l : List OpenEvent). open_after_lines l (lines_of tail)) (begun-already e open_list none) in
    let never : Waits after e → ⊥ = λ waits. laws.never file tail e r.whole can (λ line there. All-contains (λ (line : List ℕ). handed_of_line line ≢ Some e) (lines_of tail) line others there) (subst (λ (l : List OpenEvent). Waits l e) (sym reports) waits) in
    All-weaker (Contains after) (λ (o : OpenEvent). o ≢ open_event e false) (λ o there same. never (subst (Contains after) same there)) after (All-contains_itself after)

-- ---- when everything is in the file, nothing is pending

longer : (es : Entries) (open_list : List OpenEvent) → length open_list < length (mark_all_handed es open_list) + 1
longer [] open_list = omega arith
longer (e ∷ es) open_list = let more = longer es (mark_handed (event_of_entry e) open_list) in let one = by (is_open (event_of_entry e) open_list) in omega (arith, more, one)
  where
    by : (b : Bool) → length open_list < length (cond b open_list (open_list ++ open_event (event_of_entry e) false ∷ [])) + 1
    by true = omega arith
    by false = omega (arith, length-append open_list (open_event (event_of_entry e) false ∷ []))

none-marked : (es : Entries) → mark_all_handed es [] ≡ [] → es ≡ []
none-marked [] is = refl
none-marked (e ∷ es) is = let more = longer es (open_event (event_of_entry e) false ∷ []) in let no : length (mark_all_handed es (open_event (event_of_entry e) false ∷ [])) ≡ 0 = ap (λ (l : List OpenEvent). length l) is in absurd (omega (arith, more, no))

nothing-pending : Handling → (pending : Entries) → Hands [] pending → pending ≡ []
nothing-pending laws pending hands =
    let starts = laws.starts [] 0 refl refl (omega arith) in
    let text : List ℕ = done_up_to_line 0 in
    let r : Reads text [] = record { whole = is_whole-push (done_up_to_text 0); tracked = starts.0; is = starts.1 } in
    let more = reads-hands laws text [] [] pending r hands in
    none-marked pending (sym more.is ∙ ap open_events (append-nil text) ∙ starts.1)

-- ---- an event that has begun doesn't wait again

record HasBegunIn (h : TrackedHost) (e : TimedEvent) : Type 0 where
  can : CanBeWritten e
  waiting : DoesNotWait e h.open_list
  tail : HandsNone e (lines_of h.tail)
  pending : All (λ x. event_of_entry x ≢ e) h.pending

not-counted : (laws : Handling) (h : TrackedHost) (e : TimedEvent) → Good h → HasBegunIn h e → DoesNotWait e (counted h)
not-counted laws h e g b = waits-tail laws h.file h.tail h.open_list e g.reads b.can b.waiting b.tail

begin-step : (below : Below) (laws : Handling) (name : List ℕ) (h : TrackedHost) (deed : TrackedDeed) (begun : List TimedEvent) → Good h → tracks.MayDo name h deed → OpensNew begun h deed → BeginsWaiting h deed → All (HasBegunIn h) begun → All (HasBegunIn (tracks.did h deed)) (begun ++ begun_by deed)
begin-step below laws name h (tracks.Calls e t code) begun g may opens waits all =
    let next = tracks.did h (tracks.Calls e t code) in
    let handed = handed_by e h.host.session t in
    let fresh = both-all (λ (x : TimedEntry EventBody). Contains h.host.given x → ⊥) (λ (x : TimedEntry EventBody). Contains begun (event_of_entry x) → Contains h.host.given x) handed (calls-new below name h e t code g.hosted may) opens in
    let new : All (λ (x : TimedEntry EventBody). Contains begun (event_of_entry x) → ⊥) handed = All-weaker (λ (x : TimedEntry EventBody). (Contains h.host.given x → ⊥) × (Contains begun (event_of_entry x) → Contains h.host.given x)) (λ (x : TimedEntry EventBody). Contains begun (event_of_entry x) → ⊥) (λ x p there. p.0 (p.1 there)) handed fresh in
    let there = both-all (HasBegunIn h) (Contains begun) begun all (All-contains_itself begun) in
    subst (All (HasBegunIn next)) (sym (append-nil begun)) (All-weaker (λ (b : TimedEvent). HasBegunIn h b × Contains begun b) (HasBegunIn next) (λ b p. record {
      can = p.0.can;
      waiting = p.0.waiting;
      tail = p.0.tail;
      pending = All-append (λ (x : TimedEntry EventBody). event_of_entry x ≢ b) h.pending handed p.0.pending
          (All-weaker (λ (x : TimedEntry EventBody). Contains begun (event_of_entry x) → ⊥) (λ (x : TimedEntry EventBody). event_of_entry x ≢ b) (λ x none same. none (subst (Contains begun) (sym same) p.1)) handed new);
    }) begun there)
begin-step below laws name h (tracks.Writes t) begun g may opens waits all =
    let next = tracks.did h (tracks.Writes t) in
    subst (All (HasBegunIn next)) (sym (append-nil begun)) (All-weaker (HasBegunIn h) (HasBegunIn next) (λ b p. record { can = p.can; waiting = waits-all h.pending b (counted h) p.pending (not-counted laws h b g p); tail = All-nil (λ (line : List ℕ). handed_of_line line ≢ Some b); pending = All-nil (λ (x : TimedEntry EventBody). event_of_entry x ≢ b) }) begun all)
begin-step below laws name h (tracks.Renames time more) begun g may opens waits all =
    let next = tracks.did h (tracks.Renames time more) in
    subst (All (HasBegunIn next)) (sym (append-nil begun)) (All-weaker (HasBegunIn h) (HasBegunIn next) (λ b p. record { can = p.can; waiting = not-counted laws h b g p; tail = All-nil (λ (line : List ℕ). handed_of_line line ≢ Some b); pending = p.pending }) begun all)
begin-step below laws name h (tracks.Begins e) begun g may opens waits all =
    let next = tracks.did h (tracks.Begins e) in
    let none = nothing-pending laws h.pending (own-at laws h g may.0 g.state).hands in
    All-append (HasBegunIn next) begun (e ∷ [])
    (All-weaker (HasBegunIn h) (HasBegunIn next) (λ b p. record { can = p.can; waiting = waits-begun e b (counted h) (not-counted laws h b g p); tail = All-nil (λ (line : List ℕ). handed_of_line line ≢ Some b); pending = p.pending }) begun all)
    (All-cons (HasBegunIn next) e [] (record {
      can = may.1;
      waiting = begun-itself e (counted h);
      tail = All-nil (λ (line : List ℕ). handed_of_line line ≢ Some e);
      pending = subst (All (λ (x : TimedEntry EventBody). event_of_entry x ≢ e)) (sym none) (All-nil (λ (x : TimedEntry EventBody). event_of_entry x ≢ e));
    }) (All-nil (HasBegunIn next)))
begin-step below laws name h (tracks.Ends e) begun g may opens waits all =
    let next = tracks.did h (tracks.Ends e) in
    subst (All (HasBegunIn next)) (sym (append-nil begun)) (All-weaker (HasBegunIn h) (HasBegunIn next) (λ b p. record {
      can = p.can;
      waiting = All-filter (λ (o : OpenEvent). not (same_event e o.event)) (λ (o : OpenEvent). o ≢ open_event b false) (counted h) (not-counted laws h b g p);
      tail = All-nil (λ (line : List ℕ). handed_of_line line ≢ Some b);
      pending = p.pending;
    }) begun all)
begin-step below laws name h (tracks.EndsUpTo time) begun g may opens waits all =
    let next = tracks.did h (tracks.EndsUpTo time) in
    subst (All (HasBegunIn next)) (sym (append-nil begun)) (All-weaker (HasBegunIn h) (HasBegunIn next) (λ b p. record {
      can = p.can;
      waiting = All-filter (λ (o : OpenEvent). nat_lt time o.event.time) (λ (o : OpenEvent). o ≢ open_event b false) (counted h) (not-counted laws h b g p);
      tail = All-nil (λ (line : List ℕ). handed_of_line line ≢ Some b);
      pending = p.pending;
    }) begun all)
begin-step below laws name h (tracks.Appends lines) begun g may opens waits all =
    let next = tracks.did h (tracks.Appends lines) in
    subst (All (HasBegunIn next)) (sym (append-nil begun)) (All-weaker (HasBegunIn h) (HasBegunIn next) (λ b p. record { can = p.can; waiting = not-counted laws h b g p; tail = All-nil (λ (line : List ℕ). handed_of_line line ≢ Some b); pending = p.pending }) begun all)
begin-step below laws name h (tracks.Dies settings tail t) begun g may opens waits all =
    let next = tracks.did h (tracks.Dies settings tail t) in
    let there = both-all (HasBegunIn h) (λ (b : TimedEvent). HandsNone b (lines_of (h.tail ++ tail))) begun all opens in
    subst (All (HasBegunIn next)) (sym (append-nil begun)) (All-weaker (λ (b : TimedEvent). HasBegunIn h b × HandsNone b (lines_of (h.tail ++ tail))) (HasBegunIn next) (λ b p. record { can = p.0.can; waiting = p.0.waiting; tail = p.1; pending = All-nil (λ (x : TimedEntry EventBody). event_of_entry x ≢ b) }) begun there)

-- what begins waits, so it hasn't begun
new-begin : (laws : Handling) (h : TrackedHost) (deed : TrackedDeed) (begun : List TimedEvent) → Good h → BeginsWaiting h deed → All (HasBegunIn h) begun → AllPairs (λ x y. x ≢ y) begun → AllPairs (λ x y. x ≢ y) (begun ++ begun_by deed)
new-begin laws h (tracks.Begins e) begun g waits all once =
    let waiting : Waits (counted h) e = subst (λ (l : List OpenEvent). Waits l e) (open-joined h.file h.tail h.open_list g.reads) waits in
    pairs-append (λ x y. x ≢ y) begun (e ∷ []) once (λ i j d lt within. absurd (omega (arith, lt, within)))
    (All-weaker (HasBegunIn h) (λ (b : TimedEvent). All (λ (y : TimedEvent). b ≢ y) (e ∷ [])) (λ b p. All-cons (λ (y : TimedEvent). b ≢ y) e [] (λ same. All-contains (λ (o : OpenEvent). o ≢ open_event b false) (counted h) (open_event e false) (not-counted laws h b g p) waiting (ap (λ (x : TimedEvent). open_event x false) (sym same))) (All-nil (λ (y : TimedEvent). b ≢ y))) begun all)
new-begin laws h (tracks.Calls e t code) begun g waits all once = subst (λ (l : List TimedEvent). AllPairs (λ x y. x ≢ y) l) (sym (append-nil begun)) once
new-begin laws h (tracks.Writes t) begun g waits all once = subst (λ (l : List TimedEvent). AllPairs (λ x y. x ≢ y) l) (sym (append-nil begun)) once
new-begin laws h (tracks.Renames time more) begun g waits all once = subst (λ (l : List TimedEvent). AllPairs (λ x y. x ≢ y) l) (sym (append-nil begun)) once
new-begin laws h (tracks.Ends e) begun g waits all once = subst (λ (l : List TimedEvent). AllPairs (λ x y. x ≢ y) l) (sym (append-nil begun)) once
new-begin laws h (tracks.EndsUpTo time) begun g waits all once = subst (λ (l : List TimedEvent). AllPairs (λ x y. x ≢ y) l) (sym (append-nil begun)) once
new-begin laws h (tracks.Appends lines) begun g waits all once = subst (λ (l : List TimedEvent). AllPairs (λ x y. x ≢ y) l) (sym (append-nil begun)) once
new-begin laws h (tracks.Dies settings tail t) begun g waits all once = subst (λ (l : List TimedEvent). AllPairs (λ x y. x ≢ y) l) (sym (append-nil begun)) once

begins-all : (below : Below) (laws : Handling) (name : List ℕ) (deeds : List TrackedDeed) (h : TrackedHost) (begun : List TimedEvent) → Good h → MayTrack name h deeds → AllOpenNew begun h deeds → Along BeginsWaiting h deeds → All (HasBegunIn h) begun → AllPairs (λ x y. x ≢ y) begun → AllPairs (λ x y. x ≢ y) (begun ++ begun_in deeds)
begins-all below laws name [] h begun g may opens waits all once = subst (λ (l : List TimedEvent). AllPairs (λ x y. x ≢ y) l) (sym (append-nil begun)) once
begins-all below laws name (deed ∷ rest) h begun g may opens waits all once =
    subst (λ (l : List TimedEvent). AllPairs (λ x y. x ≢ y) l) (append_assoc begun (begun_by deed) (begun_in rest))
    (begins-all below laws name rest (tracks.did h deed) (begun ++ begun_by deed) (step below laws name h deed g may.0) may.1 opens.1 waits.1
    (begin-step below laws name h deed begun g may.0 opens.0 waits.0 all) (new-begin laws h deed begun g waits.0 all once))

pub begins_once : Below → Handling → BeginsOnce
begins_once below laws = λ name settings text t deeds lives waits opens.
    begins-all below laws name deeds (first_tracked text t) [] (first below laws name settings text t deeds lives) lives.may opens waits (All-nil (HasBegunIn (first_tracked text t))) (λ i j d lt within. absurd (omega arith))

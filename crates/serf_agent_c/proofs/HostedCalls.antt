-- What each call does to a host: to the agent inside, to the agent to which a kill reverts, and to what was handed out.
use Rattle.serf_agent_c.proofs.Names.{Bool, Err, List, None, Ok, Option, Result, Some, [], ap, append-nil, arith, cond, false, inl, inr, map, refl, subst, sym, true, ℕ, ◌&&◌, ◌++◌, ◌+◌, ◌-◌, ◌<◌, ◌^◌, ◌||◌, ◌∙◌, ◌∷◌, ◌≡◌, ◌≢◌, ◌≤◌, ◌⊎◌, cases_lt, DecodesBytes, DecodesInRange, PushPull, min_line, Kept, AsksSink, Call, MayEnd, ended, IdealAgent, BeginsDurable, IsDurable, MayKeep, StartsWithDurable, StaysDurable, Act, Compacts, Hears, MayAct, fired_query_entries, event_entry, fired_entries, got_entries, clock_state, AsksAfter, BeginsSound, FiresAfter, OpensAfter, StaysOnce, StepsSound, IsSound, handed_by, heard_by, joined, FireError, Fired, FiredQuery, MergeError, Outcome, PushPullError, QueryError, ReceiveError, Reply, RespondError, call_result_of, Follows, Went, goes, rests, waits, Calls, Compact, Host, LocalState, Next, Observe, Says, did, replacing, shown, KeepsBurst, is_ready, pending_bytes, BurstOutcome, Code, CallResult, Session}
use Rattle.serf_agent.specs.declared.outcome.Outcome.TheVariants as outcomes
use Rattle.serf_agent.specs.Lives as lives
use Rattle.serf_agent_c.specs.declared.call_result.CallResult.TheVariants as call_results
use Rattle.serf_agent_c.specs.Bursts.{Follows as FollowsNext}
use Rattle.serf_snapshot.specs.declared.kind.ClockKind.TheVariants as kinds
use Rattle.serf_agent_c.specs.declared.code.Code.TheVariants as codes
use Rattle.serf_agent_c.proofs.OtherLines.{Reading}
use Rattle.serf_agent_c.proofs.HostLaws.{Compacted, idle, refuses, renews, ready-parts, observed-follows, same-agent, text-ready, unobserved-follows, want}
use Rattle.serf_agent_c.specs.HostLaws.{WentInBurst, lost, made}
use Rattle.serf_agent_c.proofs.HandedOnce.{Given, Knows, Recalls, both, call_result_entries, gives-none, join-assoc, join-nothing, knows-front, knows-swapped, nothing, outs, ◌⊕◌}

-- what the crates below promise
pub record Below : Type 0 where
  pub once : StaysOnce
  pub fires : FiresAfter
  pub asks : AsksAfter
  pub sound : StepsSound
  pub begins_sound : BeginsSound
  pub durable : StaysDurable
  pub begins_durable : BeginsDurable
  pub opens : OpensAfter
  pub bytes : DecodesBytes
  pub ranged : DecodesInRange
  pub reading : Reading

pub knows-after : Below → (i : IdealAgent) (act : Act) (a : Given) → IsSound i → MayAct i act → Knows i a → Knows (lives.after i act) (a ⊕ outs i act)
knows-after laws i act a sound may k = laws.once i act a.events a.queries sound may k

abbrev pub queue_entries : List BurstOutcome → Given
queue_entries [] = nothing
queue_entries (x ∷ xs) = call_result_entries (call_result_of x) ⊕ queue_entries xs

-- what the getters may have returned
abbrev pub given_to : Host → Given
given_to h = both h.given h.queries

-- what the agent handed out, and no getter could return yet
abbrev pub due : Host → Given
due h = cond h.fresh (call_result_entries h.session.call_result) nothing ⊕ queue_entries h.session.burst.items

pub record Inside (h : Host) : Type 0 where
  pub agent : IdealAgent
  pub follows : Follows agent h.file h.session
  pub durable : IsDurable agent
  pub once : Knows agent (given_to h ⊕ due h)

-- the agent to which a kill reverts if the file begins with this text
pub record AfterAt (h : Host) (front : List ℕ) : Type 0 where
  pub agent : IdealAgent
  pub sound : IsSound agent
  pub durable : IsDurable agent
  pub starts : StartsWithDurable agent front
  pub once : Knows agent (given_to h)

abbrev pub Behind : Host → Type 0
Behind h = AfterAt h h.file

-- a text that is to replace the file's is also the text of an agent, and the session isn't ready
abbrev pub Renewed : Host → Type 0
Renewed h = (front : List ℕ) → h.new ≡ Some front → AfterAt h front × (h.session.replaces ≡ true)

pub record IsHosted (h : Host) : Type 0 where
  pub inside : Inside h
  pub following : Behind h
  pub renewed : Renewed h
  pub quiet : is_ready h.session ≡ true → h.fresh ≡ false

pub not-replacing : (s : Session) → is_ready s ≡ true → s.replaces ≡ true → ⊥
not-replacing s ready replaces = let p = ready-parts s.replaces (pending_bytes s.agent.device s.written) ready in let no : true ≡ false = sym replaces ∙ p.0 in cc

-- a ready session has no text that is to replace the file's
pub renewed-ready : (h g : Host) → is_ready h.session ≡ true → Renewed h → g.new ≡ h.new → Renewed g
renewed-ready h g ready renewed same = λ front at. absurd (not-replacing h.session ready (renewed front (sym same ∙ at)).1)

pub both-true : (a b : Bool) → (a && b) ≡ true → (a ≡ true) × (b ≡ true)
both-true true true is = (refl, refl)
both-true true false is = cc
both-true false b is = cc

pub first-false : (a b : Bool) → (a && b) ≡ false → b ≡ true → a ≡ false
first-false true true is now = cc
first-false true false is now = cc
first-false false b is now = refl

-- the getters can return everything that is written
abbrev pub told : Host → Host
told h = let more = call_result_entries h.session.call_result in record h { given = h.given ++ more.events; queries = h.queries ++ more.queries; fresh = false }

pub following-now : (h : Host) (i : IdealAgent) → Follows i h.file h.session → IsDurable i → is_ready h.session ≡ true → StartsWithDurable i h.file
following-now h i f d ready = record { durable = h.file; tail = []; is = f.disk ∙ ap (λ (x : List ℕ). Some x) (text-ready h.file h.session ready); whole = sym (append-nil h.file) }

pub shown-hosted : (h : Host) → Inside h → Behind h → Renewed h → IsHosted (shown h)
shown-hosted h inside following renewed = by (h.fresh && is_ready h.session) refl
  where
    by : (b : Bool) → (h.fresh && is_ready h.session) ≡ b → IsHosted (cond b (told h) h)
    by false is = record { inside = inside; following = following; renewed = renewed; quiet = first-false h.fresh (is_ready h.session) is }
    by true is =
        let p = both-true h.fresh (is_ready h.session) is in
        let i = inside.agent in
        let f = inside.follows in
        let call_result = call_result_entries h.session.call_result in
        let queue = queue_entries h.session.burst.items in
        let once : Knows i (given_to h ⊕ (call_result ⊕ queue)) = subst (λ (b : Bool). Knows i (given_to h ⊕ (cond b call_result nothing ⊕ queue))) p.0 inside.once in
        let twice : Knows i ((given_to h ⊕ call_result) ⊕ queue) = subst (Knows i) (sym (join-assoc (given_to h) call_result queue)) once in
        record {
          inside = record { agent = i; follows = record { state = f.state; sound = f.sound; calm = f.calm; flushed = f.flushed; disk = f.disk }; durable = inside.durable; once = twice };
          following = record { agent = i; sound = f.sound; durable = inside.durable; starts = following-now h i f inside.durable p.1; once = knows-front i (given_to h ⊕ call_result) queue twice };
          renewed = renewed-ready h (told h) p.1 renewed refl;
          quiet = λ ready. refl;
        }

-- ---- a single call

pub renewed-same : (h g : Host) → Renewed h → g.new ≡ h.new → g.session.replaces ≡ h.session.replaces → given_to g ≡ given_to h → Renewed g
renewed-same h g renewed new replaces given = λ front at.
    let r = renewed front (sym new ∙ at) in
    let b = r.0 in
    (record { agent = b.agent; sound = b.sound; durable = b.durable; starts = b.starts; once = subst (Knows b.agent) (sym given) b.once }, replaces ∙ r.1)

abbrev pub pre : Host → Session → Host
pre h t = record h { session = t; fresh = h.fresh || is_ready h.session }

pub or-false : (a b : Bool) → b ≡ false → (a || b) ≡ a
or-false true b is = refl
or-false false b is = is

pub or-true : (a b : Bool) → b ≡ true → (a || b) ≡ true
or-true true b is = refl
or-true false b is = is

pub cond-nothing : (b : Bool) → cond b nothing nothing ≡ nothing
cond-nothing true = refl
cond-nothing false = refl

pub following-pre : (h : Host) (t : Session) → Behind h → Behind (pre h t)
following-pre h t k = record { agent = k.agent; sound = k.sound; durable = k.durable; starts = k.starts; once = k.once }

-- if a session is ready, what is due waits in the burst
pub ready-knows : (h : Host) (k : IsHosted h) → is_ready h.session ≡ true → Knows k.inside.agent (given_to h ⊕ queue_entries h.session.burst.items)
ready-knows h k ready = subst (λ (b : Bool). Knows k.inside.agent (given_to h ⊕ (cond b (call_result_entries h.session.call_result) nothing ⊕ queue_entries h.session.burst.items))) (k.quiet ready) k.inside.once

-- this also holds after a call that hands out nothing, and after one that hands out something
pub due-none : (h : Host) (t : Session) (xs : List BurstOutcome) → call_result_entries t.call_result ≡ nothing → t.burst.items ≡ xs → due (pre h t) ≡ queue_entries xs
due-none h t xs none burst = ap (λ (g : Given). cond (h.fresh || is_ready h.session) g nothing ⊕ queue_entries t.burst.items) none ∙ ap (λ (g : Given). g ⊕ queue_entries t.burst.items) (cond-nothing (h.fresh || is_ready h.session)) ∙ ap queue_entries burst

pub due-given : (h : Host) (t : Session) (xs : List BurstOutcome) (g : Given) → is_ready h.session ≡ true → call_result_entries t.call_result ≡ g → t.burst.items ≡ xs → due (pre h t) ≡ g ⊕ queue_entries xs
due-given h t xs g ready call_result burst = ap (λ (b : Bool). cond b (call_result_entries t.call_result) nothing ⊕ queue_entries t.burst.items) (or-true h.fresh (is_ready h.session) ready) ∙ ap (λ (x : Given). x ⊕ queue_entries t.burst.items) call_result ∙ ap (λ (ys : List BurstOutcome). g ⊕ queue_entries ys) burst

-- a call that is made by a session that is ready
pub call-hosted : (h : Host) (t : Session) (k : IsHosted h) → is_ready h.session ≡ true → (j : IdealAgent) → Follows j h.file t → IsDurable j → (more : Given) → Knows j (given_to h ⊕ more) → due (pre h t) ≡ more → IsHosted (shown (pre h t))
call-hosted h t k ready j f durable more knows same =
    shown-hosted (pre h t) (record { agent = j; follows = f; durable = durable; once = subst (λ (g : Given). Knows j (given_to h ⊕ g)) (sym same) knows })
    (following-pre h t k.following) (renewed-ready h (pre h t) ready k.renewed refl)

-- a call that isn't made, because the session isn't ready
pub waits-hosted : (h : Host) (t : Session) (k : IsHosted h) → is_ready h.session ≡ false → t ≡ h.session → IsHosted (shown (pre h t))
waits-hosted h t k unready same =
    let inside : Inside (pre h h.session) = record {
      agent = k.inside.agent;
      follows = k.inside.follows;
      durable = k.inside.durable;
      once = subst (λ (b : Bool). Knows k.inside.agent (given_to h ⊕ (cond b (call_result_entries h.session.call_result) nothing ⊕ queue_entries h.session.burst.items))) (sym (or-false h.fresh (is_ready h.session) unready)) k.inside.once;
    } in
    subst (λ (t : Session). IsHosted (shown (pre h t))) (sym same) (shown-hosted (pre h h.session) inside (following-pre h h.session k.following) (renewed-same h (pre h h.session) k.renewed refl refl refl))

-- a call that accepts nothing and hands out nothing
pub quiet-hosted : (h : Host) (t : Session) (k : IsHosted h) → is_ready h.session ≡ true → (j : IdealAgent) → Follows j h.file t → IsDurable j → Recalls k.inside.agent j → call_result_entries t.call_result ≡ nothing → t.burst.items ≡ h.session.burst.items → IsHosted (shown (pre h t))
quiet-hosted h t k ready j f durable recalls none burst =
    let queue = queue_entries h.session.burst.items in
    call-hosted h t k ready j f durable queue (recalls (given_to h ⊕ queue) (ready-knows h k ready)) (due-none h t h.session.burst.items none burst)

pub went-hosted : {R : Type 0} (laws : Below) (call_result : R → CallResult) (h : Host) (t : Session) (act : Act) (i : IdealAgent) (call : Call R) (k : IsHosted h) → i ≡ k.inside.agent → (is_ready h.session ≡ true → KeepsBurst h.session t) → Went call_result i call h.file h.session t
    → lives.after i act ≡ (ended i call Kept).agent → (MayEnd i call Kept → MayAct i act) → MayKeep i act → outs i act ≡ call_result_entries (call_result (ended i call Kept).answer) → IsHosted (shown (pre h t))
went-hosted laws call_result h t act i call k is burst (waits unready same) becomes may keep out = waits-hosted h t k unready same
went-hosted laws call_result h t act i call k is burst (rests ready f none) becomes may keep out =
    quiet-hosted h t k ready k.inside.agent (subst (λ (j : IdealAgent). Follows j h.file t) is f) k.inside.durable (λ a knows. knows) (gives-none t.call_result none) (burst ready)
went-hosted {R} laws call_result h t act i call k is burst (goes ready ends gives f) becomes may keep out =
    let queue = queue_entries h.session.burst.items in
    let here : Knows i (given_to h ⊕ queue) = subst (λ (j : IdealAgent). Knows j (given_to h ⊕ queue)) (sym is) (ready-knows h k ready) in
    let sound : IsSound i = subst (λ (j : IdealAgent). IsSound j) (sym is) k.inside.follows.sound in
    let durable : IsDurable i = subst (λ (j : IdealAgent). IsDurable j) (sym is) k.inside.durable in
    let next = knows-after laws i act (given_to h ⊕ queue) sound (may ends) here in
    call-hosted h t k ready (lives.after i act) (subst (λ (j : IdealAgent). Follows j h.file t) (sym becomes) f) (laws.durable i act sound durable (may ends) keep)
    (outs i act ⊕ queue) (knows-swapped (lives.after i act) (given_to h) queue (outs i act) next) (due-given h t h.session.burst.items (outs i act) ready (ap call_result_entries gives ∙ sym out) (burst ready))

-- ---- steps of a host

pub fired-out : (r : Result Fired FireError) → both (fired_entries r) [] ≡ call_result_entries (call_results.Fired r)
fired-out (Ok f) = refl
fired-out (Err error) = refl

pub fired_queries-out : (r : Result FiredQuery QueryError) → both [] (fired_query_entries r) ≡ call_result_entries (call_results.QueryFired r)
fired_queries-out (Ok f) = refl
fired_queries-out (Err error) = refl

pub received-out : (r : Result Outcome ReceiveError) → both (map event_entry (handed_by r)) (got_entries r) ≡ call_result_entries (call_results.Received r)
received-out (Err error) = refl
received-out (Ok (outcomes.Event e)) = refl
received-out (Ok (outcomes.Query a b c)) = refl
received-out (Ok outcomes.Ack) = refl
received-out (Ok outcomes.Response) = refl
received-out (Ok (outcomes.Ignored reason)) = refl
received-out (Ok (outcomes.Foreign kind)) = refl
received-out (Ok outcomes.PushPull) = refl

pub queue-push : (xs : List BurstOutcome) (x : BurstOutcome) → queue_entries (xs ++ x ∷ []) ≡ queue_entries xs ⊕ call_result_entries (call_result_of x)
queue-push [] x = join-nothing (call_result_entries (call_result_of x))
queue-push (y ∷ ys) x = ap (λ (g : Given). call_result_entries (call_result_of y) ⊕ g) (queue-push ys x) ∙ sym (join-assoc (call_result_entries (call_result_of y)) (queue_entries ys) (call_result_entries (call_result_of x)))

-- a host after a call that has no result itself
abbrev pub beside : Host → Session → Host
beside h t = record h { session = t; fresh = h.fresh || false }

pub following-beside : (h : Host) (t : Session) → Behind h → Behind (beside h t)
following-beside h t k = record { agent = k.agent; sound = k.sound; durable = k.durable; starts = k.starts; once = k.once }

pub due-beside : (h : Host) (t : Session) → t.call_result ≡ h.session.call_result → due (beside h t) ≡ cond h.fresh (call_result_entries h.session.call_result) nothing ⊕ queue_entries t.burst.items
due-beside h t call_result = ap (λ (b : Bool). cond b (call_result_entries t.call_result) nothing ⊕ queue_entries t.burst.items) (or-false h.fresh false refl) ∙ ap (λ (g : CallResult). cond h.fresh (call_result_entries g) nothing ⊕ queue_entries t.burst.items) call_result

-- a call that has no result itself, and accepts nothing
pub beside-hosted : (h : Host) (t : Session) (k : IsHosted h) → t.call_result ≡ h.session.call_result → t.replaces ≡ h.session.replaces → t.burst.items ≡ h.session.burst.items → (j : IdealAgent) → Follows j h.file t → IsDurable j → Recalls k.inside.agent j → IsHosted (shown (beside h t))
beside-hosted h t k call_result replaces burst j f durable recalls =
    let same : due (beside h t) ≡ due h = due-beside h t call_result ∙ ap (λ (xs : List BurstOutcome). cond h.fresh (call_result_entries h.session.call_result) nothing ⊕ queue_entries xs) burst in
    shown-hosted (beside h t) (record { agent = j; follows = f; durable = durable; once = subst (λ (g : Given). Knows j (given_to h ⊕ g)) (sym same) (recalls (given_to h ⊕ due h) k.inside.once) })
    (following-beside h t k.following) (renewed-same h (beside h t) k.renewed refl replaces refl)

pub bursted-hosted : {R : Type 0} (laws : Below) (burst_outcome : R → BurstOutcome) (h : Host) (t : Session) (act : Act) (i : IdealAgent) (call : Call R) (k : IsHosted h) → i ≡ k.inside.agent → t.call_result ≡ h.session.call_result → t.replaces ≡ h.session.replaces → WentInBurst burst_outcome i call h.file h.session t
    → lives.after i act ≡ (ended i call Kept).agent → (MayEnd i call Kept → MayAct i act) → MayKeep i act → outs i act ≡ call_result_entries (call_result_of (burst_outcome (ended i call Kept).answer)) → IsHosted (shown (beside h t))
bursted-hosted laws burst_outcome h t act i call k is call_result replaces (lost f burst) becomes may keep out =
    beside-hosted h t k call_result replaces burst k.inside.agent (subst (λ (j : IdealAgent). Follows j h.file t) is f) k.inside.durable (λ a knows. knows)
bursted-hosted laws burst_outcome h t act i call k is call_result replaces (made ends f burst) becomes may keep out =
    let x : BurstOutcome = burst_outcome (ended i call Kept).answer in
    let here : Knows i (given_to h ⊕ due h) = subst (λ (j : IdealAgent). Knows j (given_to h ⊕ due h)) (sym is) k.inside.once in
    let sound : IsSound i = subst (λ (j : IdealAgent). IsSound j) (sym is) k.inside.follows.sound in
    let durable : IsDurable i = subst (λ (j : IdealAgent). IsDurable j) (sym is) k.inside.durable in
    let next = knows-after laws i act (given_to h ⊕ due h) sound (may ends) here in
    let first = cond h.fresh (call_result_entries h.session.call_result) nothing in
    let same : due (beside h t) ≡ due h ⊕ outs i act = due-beside h t call_result ∙ ap (λ (xs : List BurstOutcome). first ⊕ queue_entries xs) burst ∙ ap (λ (g : Given). first ⊕ g) (queue-push h.session.burst.items x)
    ∙ sym (join-assoc first (queue_entries h.session.burst.items) (call_result_entries (call_result_of x))) ∙ ap (λ (g : Given). due h ⊕ g) (sym out) in
    shown-hosted (beside h t) (record {
      agent = lives.after i act;
      follows = subst (λ (j : IdealAgent). Follows j h.file t) (sym becomes) f;
      durable = laws.durable i act sound durable (may ends) keep;
      once = subst (Knows (lives.after i act)) (join-assoc (given_to h) (due h) (outs i act) ∙ ap (λ (g : Given). given_to h ⊕ g) (sym same)) next;
    }) (following-beside h t k.following) (renewed-same h (beside h t) k.renewed refl replaces refl)

-- a compaction
pub replacing-other : (new : Option (List ℕ)) (t : Session) (c : Code) → c ≢ codes.Done → replacing new Compact t c ≡ new
replacing-other new t codes.Done other = absurd (other refl)
replacing-other new t codes.OutOfMemory other = refl
replacing-other new t codes.Empty other = refl
replacing-other new t codes.InUse other = refl
replacing-other new t codes.Pending other = refl
replacing-other new t codes.Nothing other = refl
replacing-other new t codes.BadConfig other = refl
replacing-other new t codes.SinkError other = refl
replacing-other new t codes.Stopped other = refl
replacing-other new t codes.TooLarge other = refl
replacing-other new t codes.Exhausted other = refl
replacing-other new t codes.NoMessage other = refl
replacing-other new t codes.RespondersFull other = refl
replacing-other new t codes.NotPushPull other = refl
replacing-other new t codes.TooLong other = refl
replacing-other new t codes.NoTime other = refl
replacing-other new t codes.PastDeadline other = refl
replacing-other new t codes.NotPending other = refl

pub compacted-hosted : Below → (h : Host) (t : Session) (code : Code) (k : IsHosted h) → (is_ready h.session ≡ true → KeepsBurst h.session t) → Compacted k.inside.agent h.file h.session t code → IsHosted (did h (Calls Compact t code))
compacted-hosted laws h t code k burst (idle unready same is) = subst (λ (c : Code). IsHosted (did h (Calls Compact t c))) (sym is) (waits-hosted h t k unready same)
compacted-hosted laws h t code k burst (refuses ready f other none) = subst (λ (new : Option (List ℕ)). IsHosted (shown (record (pre h t) { new = new }))) (sym (replacing-other h.new t code other)) (quiet-hosted h t k ready k.inside.agent f k.inside.durable (λ a knows. knows) none (burst ready))
compacted-hosted laws h t code k burst (renews ready ends f replaces is none durable recalls) =
    let i = k.inside.agent in
    let j = lives.after i (Compacts Kept) in
    let new = pending_bytes t.agent.device t.written in
    let p : Host = record (pre h t) { new = Some new } in
    let queue = queue_entries h.session.burst.items in
    let knows : Knows j (given_to h ⊕ queue) = recalls (given_to h ⊕ queue) (ready-knows h k ready) in
    let d = laws.durable i (Compacts Kept) k.inside.follows.sound k.inside.durable ends tt in
    let at : IsHosted (shown p) = shown-hosted p (record { agent = j; follows = f; durable = d; once = subst (λ (g : Given). Knows j (given_to h ⊕ g)) (sym (due-none h t h.session.burst.items none (burst ready))) knows })
    (record { agent = k.following.agent; sound = k.following.sound; durable = k.following.durable; starts = k.following.starts; once = k.following.once })
    (λ front at. let same : new ≡ front = (let e : Some new ≡ Some front = at in cc) in (record { agent = j; sound = f.sound; durable = d; starts = record { durable = new; tail = []; is = durable; whole = sym same ∙ sym (append-nil new) }; once = knows-front j (given_to h) queue knows }, replaces)) in
    subst (λ (c : Code). IsHosted (did h (Calls Compact t c))) (sym is) at

-- the next outcome of a burst
pub next-hosted : (h : Host) (t : Session) (code : Code) (old new : ℕ) (k : IsHosted h) → Says (Next old new) h.session t code → IsHosted (shown (pre h t))
next-hosted h t code old new k may = by (is_ready h.session) refl
  where
    -- what is handed out now was at the front of what waited
    goes-on : is_ready h.session ≡ true → due (pre h t) ≡ queue_entries h.session.burst.items → IsHosted (shown (pre h t))
    goes-on ready same = call-hosted h t k ready k.inside.agent (same-agent h.session t k.inside.agent h.file ready may.2.0 (may.1 ready).0 k.inside.follows) k.inside.durable (queue_entries h.session.burst.items) (ready-knows h k ready) same

    reads : is_ready h.session ≡ true → (xs : List BurstOutcome) → h.session.burst.items ≡ xs → FollowsNext xs t code old new → due (pre h t) ≡ queue_entries xs
    reads ready [] is next = due-none h t [] (gives-none t.call_result next.1) next.2
    reads ready (x ∷ xs) is next = due-given h t xs (call_result_entries (call_result_of x)) ready (ap call_result_entries next.1) next.2

    by : (b : Bool) → is_ready h.session ≡ b → IsHosted (shown (pre h t))
    by false is = waits-hosted h t k is (may.0 is).1
    by true is = elim (want code) [
      | inl out ↦ (let r = (may.3 is).0 out in goes-on is (due-none h t h.session.burst.items (gives-none t.call_result r.0.0) r.1))
      | inr other ↦ goes-on is (reads is h.session.burst.items refl ((may.3 is).1 other))
    ]

pub still-hosted : (h : Host) (k : IsHosted h) → IsHosted (shown (beside h h.session))
still-hosted h k = beside-hosted h h.session k refl refl refl k.inside.agent k.inside.follows k.inside.durable (λ a knows. knows)

pub top-or : (n m : ℕ) → m ≤ n → (m ≡ n) ⊎ (m < n)
top-or n m h = elim (cases_lt m n) [
  | inl low ↦ inr low
  | inr high ↦ inl (omega (arith, h, high))
]

abbrev pub quiet-line : IdealAgent → PushPull → Bool → Call (Result (Unit {0}) MergeError)
quiet-line i m b = heard_by (cond (b && false) (Some (min_line kinds.Event m.event_clock)) None) i m false

pub hears-quietly : (i : IdealAgent) (m : PushPull) (b : Bool) → (ended i (quiet-line i m b) Kept).agent ≡ joined m false i
hears-quietly i m true = refl
hears-quietly i m false = refl

pub may-hear : (i : IdealAgent) (m : PushPull) (b : Bool) → MayEnd i (quiet-line i m b) Kept
may-hear i m true = refl
may-hear i m false = refl

pub no-asking : (i : IdealAgent) (m : PushPull) (b : Bool) → AsksSink (quiet-line i m b) → ⊥
no-asking i m true asks = asks
no-asking i m false asks = asks

pub local-out : (r : Result (List ℕ) PushPullError) → call_result_entries (call_results.State r) ≡ nothing
local-out (Ok packet) = refl
local-out (Err error) = refl

pub replied-out : (r : Result Reply RespondError) → call_result_entries (call_results.Replied r) ≡ nothing
replied-out (Ok reply) = refl
replied-out (Err error) = refl

pub local-hosted : (h : Host) (t : Session) (code : Code) (k : IsHosted h) → Says LocalState h.session t code → IsHosted (shown (pre h t))
local-hosted h t code k may = by (is_ready h.session) refl
  where
    made-it : is_ready h.session ≡ true → t.agent ≡ h.session.agent → call_result_entries t.call_result ≡ nothing → IsHosted (shown (pre h t))
    made-it ready same none = quiet-hosted h t k ready k.inside.agent (same-agent h.session t k.inside.agent h.file ready same (may.1 ready).2 k.inside.follows) k.inside.durable (λ a knows. knows) none (may.1 ready).5

    by : (b : Bool) → is_ready h.session ≡ b → IsHosted (shown (pre h t))
    by false is = waits-hosted h t k is (may.0 is).1
    by true is = elim (want code) [
      | inl out ↦ (let f = may.2 out in made-it is f.0 (gives-none t.call_result f.1.0))
      | inr other ↦ (let g = may.3 is other in made-it is (may.4 is other).1 (ap call_result_entries g.1 ∙ local-out g.0))
    ]

pub observed-hosted : Below → (h : Host) (t : Session) (code : Code) (time : ℕ) (k : IsHosted h) → Says (Observe time) h.session t code → time < 2 ^ 64 → IsHosted (shown (beside h t))
observed-hosted laws h t code time k may small = by (is_ready h.session) refl
  where
    i : IdealAgent
    i = k.inside.agent

    at-maximum : is_ready h.session ≡ true → (time ≡ 2 ^ 64 - 1) ⊎ (time < 2 ^ 64 - 1) → IsHosted (shown (beside h t))
    at-maximum ready (inl none) = let rest = may.1 ready in beside-hosted h t k rest.0 rest.2 rest.6 i (unobserved-follows h.session t code time i h.file may ready none k.inside.follows) k.inside.durable (λ a knows. knows)
    at-maximum ready (inr low) =
        let rest = may.1 ready in
        let act = Hears (clock_state (time + 1)) false Kept in
        let is : lives.after i act ≡ joined (clock_state (time + 1)) false i = hears-quietly i (clock_state (time + 1)) i.config.keep_events in
        let may_hear : MayAct i act = (may-hear i (clock_state (time + 1)) i.config.keep_events, omega (arith, low), λ asks. absurd (no-asking i (clock_state (time + 1)) i.config.keep_events asks)) in
        beside-hosted h t k rest.0 rest.2 rest.6 (joined (clock_state (time + 1)) false i) (observed-follows h.session t code time i h.file may ready low k.inside.follows)
        (subst IsDurable is (laws.durable i act k.inside.follows.sound k.inside.durable may_hear (omega arith))) (λ a knows. knows)

    by : (b : Bool) → is_ready h.session ≡ b → IsHosted (shown (beside h t))
    by false is = subst (λ (t : Session). IsHosted (shown (beside h t))) (sym (may.0 is).1) (still-hosted h k)
    by true is = at-maximum is (top-or (2 ^ 64 - 1) time (omega (arith, small)))

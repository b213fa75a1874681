-- A call, an event and a query leave their agent sound, if its sink has a plan of failures.
use Rattle.serf_model.proofs.Names.{Bool, Err, IsSome, List, None, Ok, Option, Some, ap, arith, cond, false, inl, inr, length, nat_le, nat_lt, refl, subst, sym, true, ℕ, ◌-◌, ◌<◌, ◌==◌, ◌^◌, ◌≡◌, ◌≢◌, ◌≤◌, and_parts, leb-false, leb-true, ltb-false, or_parts, append-nil, All-weaker, All, is_some, not, canonical, Query, query, EventBody, clock_line, FailurePlan, kept_bytes, Failed, IsObservable, Kept, MayReplaceBy, MayWrite, SnapshotView, Writing, durable_left_by, last_line, append_line_fails, text_replaced, will_store, will_write, written, ClockKind, TimedEntry, Call, AppendsLine, Step, ended, planned, will, is_sound, admission, drawn, event_entered, event_out, event_packet, fire_error, fired_as, is_too_large, received_as, texts_len, written_event, IdealAgent, Past, with_snapshot, ack_if_passed, handed_if_passed, has_flag, is_no_timeout, is_too_large_query, no_broadcast_flag, query_admission, query_opened, query_entered, query_error, query_fired_as, query_received_as, written_query, IsSound, MayAppendLine, appended_with, text_with, will_append_line, will_replace_with, Config, FireError, Event, QueryError, QueryParams, Reason, Below}
use Rattle.serf_snapshot.specs.declared.kind.ClockKind.TheVariants as kinds
use Rattle.serf_agent.specs.declared.outcome.Outcome.TheVariants as outcomes
use Rattle.serf_agent.specs.declared.outcome.QueryError.TheVariants as asks
use Rattle.serf_agent.specs.declared.outcome.ReceiveError.TheVariants as receives
use Rattle.serf_agent.specs.declared.outcome.FireError.TheVariants as fires
use Rattle.serf_model.proofs.ReadyLaws.{IsReady}
use Rattle.serf_model.proofs.PerTimeBound.{none-if}

-- ---- what a sink with a plan does

abbrev view : (m e q : ℕ) (stopped : Bool) (k : Option (List ℕ)) (p : Option FailurePlan) → SnapshotView
view m e q stopped k p = record { member_clock = m; event_clock = e; query_clock = q; stopped = stopped; durable = k; plan = p }

-- the plan says what happens to a line, and the result is observable
record Does (s : SnapshotView) (kind : ClockKind) (t : ℕ) (w : Writing) : Type 0 where
  may : MayWrite s (clock_line kind t) w
  observable : IsObservable (written kind t s w)

does-view : (m e q : ℕ) (b : Bool) (k : Option (List ℕ)) (p : Option FailurePlan) (kind : ClockKind) (t : ℕ) → IsSome k → IsSome p → Does (view m e q b k p) kind t (will_write (view m e q b k p))
does-view m e q b None p kind t h g = absurd (cc h)
does-view m e q b (Some k) None kind t h g = absurd (cc g)
does-view m e q b (Some k) (Some p) kind t h g = by (append_line_fails p) refl
  where
    by : (f : Bool) → append_line_fails p ≡ f → Does (view m e q b (Some k) (Some p)) kind t (cond f (Failed (Some k)) Kept)
    by true is = record { may = ((0, sym (append-nil k)), (is, refl)); observable = record { durable = refl; plan = refl } }
    by false is = record { may = is; observable = record { durable = refl; plan = refl } }

does-written : (s : SnapshotView) (kind : ClockKind) (t : ℕ) → IsObservable s → Does s kind t (will_write s)
does-written s kind t observable = does-view s.member_clock s.event_clock s.query_clock s.stopped s.durable s.plan kind t observable.durable observable.plan

-- what happens when a clock line is appended, together with a separate line if there is one
pub record DoesAppendLine (s : SnapshotView) (kind : ClockKind) (t : ℕ) (line : Option (List ℕ)) (w : Writing) : Type 0 where
  pub may : MayAppendLine kind t line s w
  kept : w ≡ Kept → IsObservable (appended_with kind t line s Kept)
  failed : (k : Option (List ℕ)) → w ≡ Failed k → IsObservable (written kind t s (Failed k))

some-mapped : {A B : Type 0} (f : A → B) (o : Option A) → IsSome o → IsSome (Rattle.std.specs.Option.option_map f o)
some-mapped f None some = absurd (cc some)
some-mapped f (Some x) some = refl

-- what a sink with a plan does with any bytes
does-bytes : (m e q : ℕ) (b : Bool) (k : Option (List ℕ)) (p : Option FailurePlan) (bytes : List ℕ) → IsSome k → IsSome p → MayWrite (view m e q b k p) bytes (will_write (view m e q b k p))
does-bytes m e q b None p bytes h g = absurd (cc h)
does-bytes m e q b (Some k) None bytes h g = absurd (cc g)
does-bytes m e q b (Some k) (Some p) bytes h g = by (append_line_fails p) refl
  where
    by : (f : Bool) → append_line_fails p ≡ f → MayWrite (view m e q b (Some k) (Some p)) bytes (cond f (Failed (Some k)) Kept)
    by true is = ((0, sym (append-nil k)), (is, refl))
    by false is = is

pub does-append_line : (s : SnapshotView) (kind : ClockKind) (t : ℕ) (line : Option (List ℕ)) → IsObservable s → DoesAppendLine s kind t line (will_append_line kind t line s)
does-append_line s kind t (Some line) observable = record {
  may = does-bytes s.member_clock s.event_clock s.query_clock s.stopped s.durable s.plan (kept_bytes kind t line (last_line kind s)) observable.durable observable.plan;
  kept = λ e. record { durable = some-mapped _ s.durable observable.durable; plan = some-mapped _ s.plan observable.plan };
  failed = λ k e. subst (λ (w : Writing). IsObservable (written kind t s w)) e (does-written s kind t observable).observable;
}
does-append_line s kind t None observable = by (nat_le t (last_line kind s)) refl
  where
    d : Does s kind t (will_write s)
    d = does-written s kind t observable

    by : (b : Bool) → nat_le t (last_line kind s) ≡ b → DoesAppendLine s kind t None (cond b Kept (will_write s))
    by true is = record { may = rw is refl; kept = λ e. rw is observable; failed = λ k e. absurd (cc e) }
    by false is = record {
      may = rw is d.may;
      kept = λ e. rw is (subst (λ (w : Writing). IsObservable (written kind t s w)) e d.observable);
      failed = λ k e. subst (λ (w : Writing). IsObservable (written kind t s w)) e d.observable;
    }

-- what happens in a compaction that keeps these lines
pub record DoesReplace (lines : Option (List ℕ)) (s : SnapshotView) (w : Writing) : Type 0 where
  pub may : MayReplaceBy (text_with lines s) s w
  pub observable : IsObservable (text_replaced (text_with lines s) s w)

-- what happens when a new text is stored
record DoesStore (text : List ℕ) (s : SnapshotView) (w : Writing) : Type 0 where
  may : MayReplaceBy text s w
  observable : IsObservable (text_replaced text s w)

does-put : (m e q : ℕ) (b : Bool) (k : Option (List ℕ)) (p : Option FailurePlan) (text : List ℕ) → IsSome k → IsSome p → DoesStore text (view m e q b k p) (will_store text (view m e q b k p) p)
does-put m e q b None p text h g = absurd (cc h)
does-put m e q b (Some k) None text h g = absurd (cc g)
does-put m e q b (Some k) (Some p) text h g = by (p.replaces == 1) refl
  where
    left : (new : Bool) → (left : Option (List ℕ)) → left ≡ cond new (Some text) (Some k) → (p.replaces == 1) ≡ true → durable_left_by p text (Some k) ≡ left → DoesStore text (view m e q b (Some k) (Some p)) (Failed left)
    left true l is fails same = record { may = (inr is, (fails, sym same)); observable = record { durable = ap is_some is; plan = refl } }
    left false l is fails same = record { may = (inl is, (fails, sym same)); observable = record { durable = ap is_some is; plan = refl } }

    by : (f : Bool) → (p.replaces == 1) ≡ f → DoesStore text (view m e q b (Some k) (Some p)) (cond f (Failed (durable_left_by p text (Some k))) Kept)
    by true is = left p.keeps_new _ refl is refl
    by false is = record { may = is; observable = record { durable = refl; plan = refl } }

does-text : (text : List ℕ) (s : SnapshotView) → IsObservable s → DoesStore text s (will_store text s s.plan)
does-text text s observable = does-put s.member_clock s.event_clock s.query_clock s.stopped s.durable s.plan text observable.durable observable.plan

pub does-replace : (lines : Option (List ℕ)) (s : SnapshotView) → IsObservable s → DoesReplace lines s (will_replace_with lines s)
does-replace lines s observable = let d = does-text (text_with lines s) s observable in record { may = d.may; observable = d.observable }

-- ---- a call

-- a call that writes a line leaves its agent sound if it does so when the line is durable
pub ready-notes : Below → {R : Type 0} (i : IdealAgent) (kind : ClockKind) (t : ℕ) (line : Option (List ℕ)) (step : Step R) (error : R) → IsReady i
    → (IsObservable (appended_with kind t line i.snapshot Kept) → IsReady (with_snapshot (appended_with kind t line i.snapshot Kept) step.agent)) → IsReady (planned i (AppendsLine kind t line step error)).agent
ready-notes lower {R} i kind t line step error g kept = by (will_append_line kind t line i.snapshot) (does-append_line i.snapshot kind t line g.consistent.observable)
  where
    by : (w : Writing) → DoesAppendLine i.snapshot kind t line w → IsReady (ended i (AppendsLine kind t line step error) w).agent
    by Kept d = kept (d.kept refl)
    by (Failed k) d = record { consistent = record { sound = lower.sound.fails_append_line kind t line k i g.consistent.sound d.may; observable = d.failed k refl }; events = g.events; queries = g.queries }

-- ---- events

ready-event_entered : Below → (i : IdealAgent) (t : ℕ) (what : EventBody) → IsReady i → i.snapshot.stopped ≡ false → t < 2 ^ 64 - 1 → texts_len what ≤ 9216 → All (λ p. p.entry ≢ record { time = t; key = what }) i.events.history
    → IsObservable (appended_with kinds.Event t (written_event i.config t what) i.snapshot Kept) → IsReady (with_snapshot (appended_with kinds.Event t (written_event i.config t what) i.snapshot Kept) (event_entered t what i))
ready-event_entered lower i t what g runs small short fresh observable = record {
  consistent = record { sound = lower.sound.enters_event t what i g.consistent.sound runs small short fresh; observable = observable };
  events = omega (arith, g.events);
  queries = g.queries;
}

pub ready-received : Below → (i : IdealAgent) (t : ℕ) (what : EventBody) (coalesce : Bool) (r : Option Reason) → IsReady i → i.snapshot.stopped ≡ false → t < 2 ^ 64 - 1 → admission i t what ≡ r → IsReady (planned i (received_as r i t what coalesce)).agent
ready-received lower i t what coalesce (Some reason) g runs small is = record { consistent = record { sound = lower.sound.observes_event t i g.consistent.sound; observable = g.consistent.observable }; events = omega (arith, g.events); queries = g.queries }
ready-received lower i t what coalesce None g runs small is =
    let new = lower.admits.event_new i t what is in
    ready-notes lower i kinds.Event t (written_event i.config t what) (record { agent = event_entered t what i; answer = Ok (Event (event_out t what coalesce)) }) (Err receives.SinkError) g (ready-event_entered lower i t what g runs small new.0 new.1)

-- the maximum values of the limits in the settings
limits : (c : Config) → is_sound c ≡ true → (nat_le c.event_limit 9216 ≡ true) × (nat_le c.query_limit 9216 ≡ true) × (nat_le c.response_limit 9216 ≡ true)
limits c ok =
    let per_time = and_parts _ _ ok in
    let responders = and_parts _ _ per_time.0 in
    let response = and_parts _ _ responders.0 in
    let query = and_parts _ _ response.0 in
    let event = and_parts _ _ query.0 in
    (event.1, query.1, response.1)

pub limit-short : (c : Config) → is_sound c ≡ true → c.event_limit ≤ 9216
limit-short c ok = leb-true c.event_limit 9216 (limits c ok).0

pub query_limit-short : (c : Config) → is_sound c ≡ true → c.query_limit ≤ 9216
query_limit-short c ok = leb-true c.query_limit 9216 (limits c ok).1

pub response_limit-short : (c : Config) → is_sound c ≡ true → c.response_limit ≤ 9216
response_limit-short c ok = leb-true c.response_limit 9216 (limits c ok).2

-- an event that isn't refused
pub record MayFire (i : IdealAgent) (what : EventBody) : Type 0 where
  pub runs : i.snapshot.stopped ≡ false
  pub short : texts_len what ≤ 9216
  pub clock : i.events.clock < 2 ^ 64 - 1

pub may-fire : (i : IdealAgent) (what : EventBody) (coalesce : Bool) → IsSound i → fire_error i what coalesce ≡ None → MayFire i what
may-fire i what coalesce s is =
    let runs = none-if i.snapshot.stopped fires.Stopped _ is in
    let large = none-if (is_too_large i.config.event_limit (drawn i.events.clock) what coalesce) fires.TooLarge _ runs.1 in
    let short = or_parts (nat_lt i.config.event_limit (texts_len what)) (nat_lt i.config.event_limit (length (event_packet (drawn i.events.clock) what coalesce))) large.0 in
    let clock = none-if (nat_le (2 ^ 64 - 1) i.events.clock) fires.Exhausted None large.1 in
    let low : texts_len what ≤ i.config.event_limit = ltb-false _ _ short.0 in
    let limit : i.config.event_limit ≤ 9216 = limit-short i.config s.config in
    record { runs = runs.0; short = omega arith; clock = leb-false _ _ clock.0 }

-- an entry that is later than all entries differs from each of them
later-fresh : {K : Type 0} (history : List (Past K)) (t : ℕ) (what : K) → All (λ p. p.entry.time < t) history → All (λ p. p.entry ≢ record { time = t; key = what }) history
later-fresh {K} history t what below =
    All-weaker (λ p. p.entry.time < t) (λ p. p.entry ≢ record { time = t; key = what }) (λ p early is. let same = ap (λ (y : TimedEntry K). y.time) is in omega arith) history below

pub ready-fired : Below → (i : IdealAgent) (what : EventBody) (coalesce : Bool) (r : Option FireError) → IsReady i → fire_error i what coalesce ≡ r → IsReady (planned i (fired_as r i what coalesce)).agent
ready-fired lower i what coalesce (Some error) g is = g
ready-fired lower i what coalesce None g is =
    let may = may-fire i what coalesce g.consistent.sound is in
    ready-notes lower i kinds.Event i.events.clock (written_event i.config i.events.clock what) (record { agent = event_entered i.events.clock what i; answer = Ok record { packet = event_packet i.events.clock what coalesce; handed = event_out i.events.clock what coalesce } }) (Err fires.SinkError) g
    (ready-event_entered lower i i.events.clock what g may.runs may.clock may.short (later-fresh i.events.history i.events.clock what g.consistent.sound.events.below_clock))

-- ---- queries

pub ready-query_received : Below → (i : IdealAgent) (now : ℕ) (q : Query) (r : Option Reason) → IsReady i → i.snapshot.stopped ≡ false → q.time < 2 ^ 64 - 1 → query_admission i q.time q.id ≡ r → IsReady (planned i (query_received_as false r i now q)).agent
ready-query_received lower i now q (Some reason) g runs small is =
    record { consistent = record { sound = lower.sound.observes_query q.time i g.consistent.sound; observable = g.consistent.observable }; events = g.events; queries = omega (arith, g.queries) }
ready-query_received lower i now q None g runs small is =
    ready-notes lower i kinds.Query q.time (written_query i.config q.time q.id)
    (record { agent = query_entered q.time q.id i; answer = Ok (outcomes.Query (handed_if_passed false i.config now q) (ack_if_passed false i.config.name q) (not (has_flag no_broadcast_flag q.flags))) }) (Err receives.SinkError) g
    (λ observable. record {
      consistent = record { sound = lower.sound.enters_query q.time q.id i g.consistent.sound runs small (lower.admits.query_new i q.time q.id is); observable = observable };
      events = g.events;
      queries = omega (arith, g.queries);
    })

pub record MayAsk (i : IdealAgent) : Type 0 where
  pub runs : i.snapshot.stopped ≡ false
  pub clock : i.queries.clock < 2 ^ 64 - 1

pub may-ask : (i : IdealAgent) (id : ℕ) (name payload : List ℕ) (params : QueryParams) → query_error i id name payload params ≡ None → MayAsk i
may-ask i id name payload params is =
    let runs = none-if i.snapshot.stopped asks.Stopped _ is in
    let large = none-if (is_too_large_query i.config i.queries.clock id name payload params) asks.TooLarge _ runs.1 in
    let timeout = none-if (is_no_timeout params.timeout) asks.ZeroTimeout _ large.1 in
    let clock = none-if (nat_le (2 ^ 64 - 1) i.queries.clock) asks.Exhausted None timeout.1 in
    record { runs = runs.0; clock = leb-false _ _ clock.0 }

pub ready-query_fired : Below → (tags : Bool) (i : IdealAgent) (now : ℕ) (q : Query) (r : Option QueryError) → IsReady i → q.time ≡ i.queries.clock → (r ≡ None → MayAsk i) → IsReady (planned i (query_fired_as tags r i now q)).agent
ready-query_fired lower tags i now q (Some error) g at may = g
ready-query_fired lower tags i now q None g at may =
    let m = may refl in
    ready-notes lower i kinds.Query q.time (written_query i.config q.time q.id) (record { agent = query_opened now q i; answer = Ok record { time = q.time; packet = canonical (query q); handed = handed_if_passed tags i.config now q; ack = ack_if_passed tags i.config.name q } }) (Err asks.SinkError) g
    (λ observable. record {
      consistent = record { sound = lower.sound.asks_query now q i g.consistent.sound m.runs at (omega (arith, m.clock)); observable = observable };
      events = g.events;
      queries = omega (arith, g.queries, m.clock);
    })

-- a call ends with its line kept, or with a failure of the sink
pub kept-or-failed : {R : Type 0} (Goal : Step R → Type 0) (i : IdealAgent) (call : Call R) → Goal (ended i call Kept) → ((durable : Option (List ℕ)) → Goal (ended i call (Failed durable))) → Goal (planned i call)
kept-or-failed {R} Goal i call kept failed = by (will i call)
  where
    by : (w : Writing) → Goal (ended i call w)
    by Kept = kept
    by (Failed durable) = failed durable

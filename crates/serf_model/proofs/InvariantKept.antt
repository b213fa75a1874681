-- After a merge, a write to the snapshot or a restart, the agent is sound, its clocks fit into 64 bits, and its sink
-- exposes what it keeps and has a plan of failures.
use Rattle.serf_model.proofs.Names.{Bool, Err, IsSome, List, None, Ok, Option, Result, Some, [], arith, false, inl, inr, nat_le, refl, subst, true, unwrap_or, ℕ, ◌++◌, ◌-◌, ◌<◌, ◌^◌, ◌∙◌, ◌∷◌, ◌≡◌, ◌≤◌, ◌⊎◌, cases_Bool, All-nil, All-weaker, AllByRecursion, option_map, Contains, decoded, PushPull, push_pull, IsRangedPushPull, IsTimed, SlotContent, empty, held, EventBody, is_whole, last_clock, FailurePlan, fresh_device, min_in, Failed, IsObservable, Kept, SnapshotView, Writing, last_line, opened, ClockKind, AppendLineError, TimedEntry, Call, AppendsLine, Replaces, Step, ended, planned, is_sound, admission, received_as, written_event, IdealAgent, Past, IsDurable, HasKept, kept_events, kept_queries, whatever, HasPast, IsInText, restarted_by, unopened, IsSound, events_of, events_of_slot, hear, heard_by, joined, merge_refusal, receive_one, written_min_line, written_lines, appended_with, will_replace_with, view_of, Config, MergeError, Outcome, Reason, ReceiveError, Below, IdealNode, Merged, merges_events, merges_heard, merges_on, opened_first, reopened, text_after, with_plan, IsConsistent, IsRepresentable}
use Rattle.serf_snapshot.specs.declared.kind.ClockKind.TheVariants as kinds
use Rattle.serf_snapshot.specs.declared.snapshot.AppendLineError.TheVariants as notes
use Rattle.serf_agent.specs.declared.outcome.MergeError.TheVariants as merges
use Rattle.serf_model.proofs.ReadyLaws.{IsReady}
use Rattle.serf_model.proofs.CallsKept.{kept-or-failed, DoesReplace, does-replace, ready-notes, ready-received}
use Rattle.serf_model.proofs.PerTimeBound.{none-if}

pub stopped-noted : (kind : ClockKind) (t : ℕ) (line : Option (List ℕ)) (s : SnapshotView) → (appended_with kind t line s Kept).stopped ≡ s.stopped
stopped-noted kind t (Some line) s = refl
stopped-noted kind t None s = elim (cases_Bool (nat_le t (last_line kind s))) [ inl low ↦ rw low refl | inr high ↦ rw high refl ]

-- ---- merges

-- an agent that is stopped receives no further events
pub ready-joined : Below → (m : PushPull) (join : Bool) (i : IdealAgent) → IsReady i → IsRangedPushPull m → IsReady (joined m join i)
ready-joined lower m join i g r = record {
  consistent = record { sound = lower.sound.joins m join i g.consistent.sound (omega (arith, r.member_clock)); observable = g.consistent.observable };
  events = omega (arith, g.events, r.event_clock);
  queries = omega (arith, g.queries, r.query_clock);
}

-- if an event was received, the sink hasn't failed
pub runs-on : (i : IdealAgent) (t : ℕ) (what : EventBody) (coalesce : Bool) (r : Option Reason) (outcome : Outcome) → i.snapshot.stopped ≡ false → (planned i (received_as r i t what coalesce)).answer ≡ Ok outcome
    → (planned i (received_as r i t what coalesce)).agent.snapshot.stopped ≡ false
runs-on i t what coalesce (Some reason) outcome runs is = runs
runs-on i t what coalesce None outcome runs is =
    kept-or-failed (λ o. o.answer ≡ Ok outcome → o.agent.snapshot.stopped ≡ false) i (received_as None i t what coalesce) (λ is. stopped-noted kinds.Event t (written_event i.config t what) i.snapshot ∙ runs) (λ d is. absurd (cc is)) is

ready-on : (o : Step (Result Outcome ReceiveError)) (rest : IdealAgent → Merged) → IsReady o.agent → ((outcome : Outcome) → o.answer ≡ Ok outcome → IsReady (rest o.agent).agent) → IsReady (merges_on o rest).agent
ready-on o rest g more = by o.answer refl
  where
    by : (r : Result Outcome ReceiveError) → o.answer ≡ r → IsReady (merges_on (record { agent = o.agent; answer = r }) rest).agent
    by (Ok outcome) is = more outcome is
    by (Err error) is = g

ready-merges : Below → (es : List (TimedEntry EventBody)) (i : IdealAgent) → IsReady i → i.snapshot.stopped ≡ false → AllByRecursion (λ e. e.time < 2 ^ 64 - 1) es → IsReady (merges_events es i).agent
ready-merges lower [] i g runs times = g
ready-merges lower (e ∷ es) i g runs times =
    let first = ready-received lower i e.time e.key false (admission i e.time e.key) g runs times.0 refl in
    ready-on (planned i (receive_one i e)) (merges_events es) first
    (λ outcome is. ready-merges lower es (planned i (receive_one i e)).agent first (runs-on i e.time e.key false (admission i e.time e.key) outcome runs is) times.1)

all-append : {X : Type 0} (P : X → Type 0) (xs ys : List X) → AllByRecursion P xs → AllByRecursion P ys → AllByRecursion P (xs ++ ys)
all-append P [] ys p q = q
all-append P (x ∷ xs) ys p q = (p.0, all-append P xs ys p.1 q)

times-slot : (t : ℕ) (es : List EventBody) → t < 2 ^ 64 - 1 → AllByRecursion (λ (e : TimedEntry EventBody). e.time < 2 ^ 64 - 1) (events_of_slot (held t es))
times-slot t [] small = tt
times-slot t (e ∷ es) small = (small, times-slot t es small)

pub times-of : (ss : List SlotContent) → AllByRecursion IsTimed ss → AllByRecursion (λ (e : TimedEntry EventBody). e.time < 2 ^ 64 - 1) (events_of ss)
times-of [] times = tt
times-of (empty ∷ ss) times = times-of ss times.1
times-of (held t es ∷ ss) times = all-append (λ (e : TimedEntry EventBody). e.time < 2 ^ 64 - 1) (events_of_slot (held t es)) (events_of ss) (times-slot t es times.0) (times-of ss times.1)

-- the same for the state that a packet spells
pub times-spelled : Below → (packet : List ℕ) (m : PushPull) → decoded packet ≡ Ok (push_pull m) → AllByRecursion (λ (e : TimedEntry EventBody). e.time < 2 ^ 64 - 1) (events_of m.slots)
times-spelled lower packet m is = let ranged = lower.in_range packet (push_pull m) is in times-of m.slots ranged.slots

-- an agent before its first life
pub unopened-sound : Below → (config : Config) → is_sound config ≡ true → IsSound (unopened config (opened [] (fresh_device [])))
unopened-sound lower config ok = lower.sound.begins config [] (fresh_device []) ok (omega arith)

-- an agent that merges the clocks of a state, if the agent isn't stopped
pub ready-heard : Below → (i : IdealAgent) (m : PushPull) (join : Bool) → IsReady i → i.snapshot.stopped ≡ false → IsRangedPushPull m → IsReady (planned i (hear i m join)).agent
ready-heard lower i m join g runs r = by (written_min_line i.config m join) refl
  where
    by : (line : Option (List ℕ)) → written_min_line i.config m join ≡ line → IsReady (planned i (heard_by line i m join)).agent
    by None is = ready-joined lower m join i g r
    by (Some line) is =
        ready-notes lower {R = Result (Unit {0}) MergeError} i kinds.Event 0 (Some line) (record { agent = joined m join i; answer = Ok tt }) (Err merges.SinkError) g
        (λ observable. record {
          consistent = record {
            sound = subst (λ (o : Option (List ℕ)). IsSound (ended i (heard_by o i m join) Kept).agent) is (lower.sound.hears m join i g.consistent.sound runs (omega (arith, r.member_clock)));
            observable = observable;
          };
          events = omega (arith, g.events, r.event_clock);
          queries = omega (arith, g.queries, r.query_clock);
        })

-- if merging the clocks succeeded, writing the state's line didn't stop the agent
pub hears-on : (i : IdealAgent) (m : PushPull) (join : Bool) (done : Unit {0}) → i.snapshot.stopped ≡ false → (planned i (hear i m join)).answer ≡ Ok done → (planned i (hear i m join)).agent.snapshot.stopped ≡ false
hears-on i m join done runs is = by (written_min_line i.config m join) is
  where
    by : (line : Option (List ℕ)) → (planned i (heard_by line i m join)).answer ≡ Ok done → (planned i (heard_by line i m join)).agent.snapshot.stopped ≡ false
    by None is = runs
    by (Some line) is = kept-or-failed (λ o. o.answer ≡ Ok done → o.agent.snapshot.stopped ≡ false) i (heard_by (Some line) i m join) (λ is. runs) (λ d is. absurd (cc is)) is

pub ready-merged : Below → (m : IdealNode) (join : Bool) (packet : List ℕ) (s : PushPull) → IsReady m.agent → decoded packet ≡ Ok (push_pull s) → merge_refusal m.agent.snapshot (Ok (push_pull s)) ≡ None
    → IsReady (merges_heard m (events_of s.slots) (planned m.agent (hear m.agent s join))).node.agent
ready-merged lower m join packet s g is refuses =
    let ranged = lower.in_range packet (push_pull s) is in
    let runs = none-if m.agent.snapshot.stopped merges.Stopped None refuses in
    let o : Step (Result (Unit {0}) MergeError) = planned m.agent (hear m.agent s join) in
    by o.answer (ready-heard lower m.agent s join g runs.0 ranged) (λ done says. hears-on m.agent s join done runs.0 says) (times-of s.slots ranged.slots)
  where
    by : (r : Result (Unit {0}) MergeError) → IsReady (planned m.agent (hear m.agent s join)).agent → ((done : Unit {0}) → r ≡ Ok done → (planned m.agent (hear m.agent s join)).agent.snapshot.stopped ≡ false)
        → AllByRecursion (λ (e : TimedEntry EventBody). e.time < 2 ^ 64 - 1) (events_of s.slots)
        → IsReady (merges_heard m (events_of s.slots) (record { agent = (planned m.agent (hear m.agent s join)).agent; answer = r })).node.agent
    by (Ok done) heard runs times = ready-merges lower (events_of s.slots) (planned m.agent (hear m.agent s join)).agent heard (runs done refl) times
    by (Err error) heard runs times = heard

-- ---- snapshots

-- the calls by which an agent saves and compacts
abbrev pub saving : IdealAgent → Call (Result (Unit {0}) AppendLineError)
saving i = AppendsLine kinds.Member (i.member_clock - 1) None (record { agent = i; answer = Ok tt }) (Err notes.SinkError)

abbrev pub compacting : IdealAgent → Call (Result (Unit {0}) AppendLineError)
compacting i = Replaces (written_lines (view_of i)) (record { agent = i; answer = Ok tt }) (Err notes.SinkError)

pub ready-saved : Below → (i : IdealAgent) → IsReady i → i.snapshot.stopped ≡ false → IsReady (planned i (saving i)).agent
ready-saved lower i g is =
    ready-notes lower {R = Result (Unit {0}) AppendLineError} i kinds.Member (i.member_clock - 1) None (record { agent = i; answer = Ok tt }) (Err notes.SinkError) g
    (λ observable. record { consistent = record { sound = lower.sound.saves (i.member_clock - 1) i g.consistent.sound is (omega (arith, g.consistent.sound.member_clock)); observable = observable }; events = g.events; queries = g.queries })

pub ready-compacted : Below → (i : IdealAgent) → IsReady i → IsReady (planned i (compacting i)).agent
ready-compacted lower i g = by (will_replace_with (written_lines (view_of i)) i.snapshot) (does-replace (written_lines (view_of i)) i.snapshot g.consistent.observable)
  where
    by : (w : Writing) → DoesReplace (written_lines (view_of i)) i.snapshot w → IsReady (ended i (compacting i) w).agent
    by Kept d = record { consistent = record { sound = lower.sound.compacts Kept i g.consistent.sound d.may; observable = d.observable }; events = g.events; queries = g.queries }
    by (Failed k) d = record { consistent = record { sound = lower.sound.compacts (Failed k) i g.consistent.sound d.may; observable = d.observable }; events = g.events; queries = g.queries }

observable-opened : (text : List ℕ) → IsObservable (opened text (fresh_device text))
observable-opened text = by (is_whole text) refl
  where
    by : (b : Bool) → is_whole text ≡ b → IsObservable (opened text (fresh_device text))
    by true is = rw is (record { durable = refl; plan = refl })
    by false is = rw is (record { durable = refl; plan = refl })

-- the durable text followed by a tail has all times that were entered
pub text-has : Below → (i : IdealAgent) (tail : List ℕ) → IsConsistent i → IsInText i (text_after i tail)
text-has lower i tail consistent = by i.snapshot.durable refl consistent.observable.durable
  where
    by : (k : Option (List ℕ)) → i.snapshot.durable ≡ k → IsSome k → IsInText i (unwrap_or k [] ++ tail)
    by None is none = absurd (cc none)
    by (Some durable) is some =
        let s = consistent.sound in
        let has = s.snapshot durable is in
        let event_clock : i.snapshot.event_clock ≤ last_clock kinds.Event durable = has.at_least kinds.Event in
        let query_clock : i.snapshot.query_clock ≤ last_clock kinds.Query durable = has.at_least kinds.Query in
        let events = lower.clock_grows kinds.Event durable tail in
        let queries = lower.clock_grows kinds.Query durable tail in
        record {
          events = All-weaker (λ p. p.entry.time ≤ i.snapshot.event_clock) (λ p. p.entry.time ≤ last_clock kinds.Event (durable ++ tail)) (λ p h. omega arith) i.events.history s.events.noted;
          queries = All-weaker (λ p. p.entry.time ≤ i.snapshot.query_clock) (λ p. p.entry.time ≤ last_clock kinds.Query (durable ++ tail)) (λ p h. omega arith) i.queries.history s.queries.noted;
        }

-- if an agent keeps its events, the durable text followed by a tail has everything that it entered
pub text-kept : Below → (i : IdealAgent) (tail : List ℕ) → IsConsistent i → IsDurable i → HasKept i (text_after i tail)
text-kept lower i tail consistent durable = by i.snapshot.durable refl consistent.observable.durable
  where
    by : (k : Option (List ℕ)) → i.snapshot.durable ≡ k → IsSome k → HasKept i (unwrap_or k [] ++ tail)
    by None is none = absurd (cc none)
    by (Some text) is some =
        let had : HasKept i text = durable.kept text is in
        record { events = lower.keeps.event_texts.grows i.events.history text tail had.events; queries = lower.keeps.query_texts.grows i.queries.history text tail had.queries }

-- so it has everything that the agent's next life needs
pub text-past : Below → (i : IdealAgent) (tail : List ℕ) → IsRepresentable i → HasPast i.config i (text_after i tail)
text-past lower i tail g = record { times = text-has lower i tail g.consistent; kept = λ keeps. text-kept lower i tail g.consistent (g.durable keeps) }

-- the clocks of an agent after it was opened again
event-opened : Below → (i : IdealAgent) (text : List ℕ) (keeps : Bool) → (restarted_by keeps text (opened text (fresh_device text)) i).events.clock ≤ 2 ^ 64 - 1
event-opened lower i text true = let last = lower.clock_below kinds.Event text in let lowest = lower.keeps.lowest kinds.Event text in omega (arith, last, lowest.1)
event-opened lower i text false = let last = lower.clock_below kinds.Event text in omega (arith, last)

query-opened : Below → (i : IdealAgent) (text : List ℕ) (keeps : Bool) → (restarted_by keeps text (opened text (fresh_device text)) i).queries.clock ≤ 2 ^ 64 - 1
query-opened lower i text true = let last = lower.clock_below kinds.Query text in let lowest = lower.keeps.lowest kinds.Query text in omega (arith, last, lowest.1)
query-opened lower i text false = let last = lower.clock_below kinds.Query text in omega (arith, last)

pub ready-opened : Below → (i : IdealAgent) (text : List ℕ) → IsSound i → HasPast i.config i text → IsReady (reopened i text)
ready-opened lower i text sound past =
    let member_clock : last_clock kinds.Member text < 2 ^ 64 - 1 = lower.clock_below kinds.Member text in
    record {
      consistent = record { sound = lower.sound.restarts i text (fresh_device text) sound past member_clock; observable = observable-opened text };
      events = event-opened lower i text i.config.keep_events;
      queries = query-opened lower i text i.config.keep_events;
    }

-- an agent before its first life has entered nothing
pub past-unopened : (config : Config) → (let i = unopened config (opened [] (fresh_device [])) in HasPast i.config i [])
past-unopened config = record {
  times = record { events = All-nil (λ p. p.entry.time ≤ 0); queries = All-nil (λ p. p.entry.time ≤ 0) };
  kept = λ keeps. record {
    events = All-nil (λ (p : Past EventBody). (p.entry.time < min_in kinds.Event []) ⊎ Contains (kept_events whatever []) p.entry);
    queries = All-nil (λ (p : Past ℕ). (p.entry.time < min_in kinds.Query []) ⊎ Contains (kept_queries whatever []) p.entry);
  };
}

pub representable-opened_first : Below → (config : Config) → is_sound config ≡ true → IsRepresentable (opened_first config)
representable-opened_first lower config ok =
    let first = ready-opened lower (unopened config (opened [] (fresh_device []))) [] (lower.sound.begins config [] (fresh_device []) ok (omega arith)) (past-unopened config) in
    record { consistent = first.consistent; durable = λ keeps. lower.keeps.begins config [] (fresh_device []); events = first.events; queries = first.queries }

-- an agent before its first life has entered nothing, and the empty text keeps nothing
pub first-events : (config : Config) → (opened_first config).events.history ≡ []
first-events config = by config.keep_events
  where
    by : (b : Bool) → (restarted_by b [] (opened [] (fresh_device [])) (unopened config (opened [] (fresh_device [])))).events.history ≡ []
    by true = refl
    by false = refl

pub first-queries : (config : Config) → (opened_first config).queries.history ≡ []
first-queries config = by config.keep_events
  where
    by : (b : Bool) → (restarted_by b [] (opened [] (fresh_device [])) (unopened config (opened [] (fresh_device [])))).queries.history ≡ []
    by true = refl
    by false = refl

pub ready-planned : (i : IdealAgent) (change : FailurePlan → FailurePlan) → IsReady i → IsReady (with_plan change i)
ready-planned i change g =
    let s = g.consistent.sound in
    record {
      consistent = record {
        sound = record {
          config = s.config;
          member_clock = s.member_clock;
          events = s.events;
          queries = s.queries;
          short = s.short;
          snapshot = λ k is. let h = s.snapshot k is in record { at_least = h.at_least; equal = h.equal; whole = h.whole };
          fired_queries_below = s.fired_queries_below;
          fired_queries_distinct = s.fired_queries_distinct;
          fired_queries_sound = s.fired_queries_sound;
        };
        observable = record { durable = g.consistent.observable.durable; plan = mapped i.snapshot.plan g.consistent.observable.plan };
      };
      events = g.events;
      queries = g.queries;
    }
  where
    mapped : (p : Option FailurePlan) → IsSome p → IsSome (option_map change p)
    mapped None h = absurd (cc h)
    mapped (Some p) h = refl

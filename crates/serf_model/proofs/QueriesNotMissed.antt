-- Agents that keep their events don't miss queries, either.
use Rattle.serf_model.proofs.Names.{Bool, Err, List, None, Ok, Option, Result, Some, [], ap, arith, cond, false, inl, inr, map, refl, subst, sym, true, unwrap_or, ℕ, ◌++◌, ◌+◌, ◌∙◌, ◌∷◌, ◌≡◌, ◌≤◌, ◌⊎◌, eq-eqb, map-append, All-append, All-nil, All-weaker, All, Contains, slice_get, decoded, Message, Query, foreign, push_pull, query, query_response, user_event, WireError, is_whole, FailurePlan, fresh_device, queries_in, TimedEntry, answers, planned, IdealAgent, Past, IsFull, IsMet, IsDurable, kept_queries, query_entry, whatever, Opens, fire_query, query_admission, query_received_as, receive, receive_read, OpensOn, SaysQueries, events_of, hear, merge_refusal, TakesAt, asked_query, got_query, query_track, Config, FiredQuery, MergeError, Outcome, QueryError, Reason, ReceiveError, Below, Cluster, IdealNode, Run, applied, apply, delivers, merges_as, merges_events, merges_given, merges_heard, query_gives, receive_gives, start, text_after, with_handed, with_plan, IsToCome, hears_query, min_by_tail, queries_shown, queries_tailed_by, query_clock_given, query_clock_of, query_clock_shown, query_clock_then, query_clock_told, query_min_written, query_tails_to, IsRepresentable, CanTellAct, Turn, actor_of, entered_by, given_by, is_agent, queries_at, query_brought, query_given, Act, Action, Of, Answer, NewQuery}
use Rattle.serf_model.specs.Cluster.{after as after_action}
use Rattle.serf_model.proofs.LifeActs.{FitsAct, Keeping, acts-keep, nothing-splits}
use Rattle.serf_model.proofs.TakesKept.{IsFit, tail-tells, OpensOnly, query_shows}
use Rattle.serf_agent.specs.Lives.{Act as LifeAct}
use Rattle.serf_model.proofs.HistoryGrowth.{keeps-apply}
use Rattle.serf_model.proofs.PerAgent.{EachIn, by-more, by-now, each-start, each_in-step}
use Rattle.serf_model.proofs.DurableKept.{durable-planned, durable-step}
use Rattle.serf_model.proofs.ClockShown.{clocks-apply}
use Rattle.serf_model.proofs.ReadyLaws.{IsReady, ready}
use Rattle.serf_model.proofs.RunLaws.{CanTellIt, IsAfter, all-at, tells-at}
use Rattle.serf_model.proofs.TurnLaws.{all-in}
use Rattle.serf_model.proofs.CallsKept.{kept-or-failed}
use Rattle.serf_model.proofs.NotMissedLaws.{none-in, only-in, IsTaken, RunTrack, first-low, full-still}
use Rattle.serf_agent.specs.declared.outcome.Outcome.TheVariants as outcomes
use Rattle.serf_model.specs.declared.action.Act.TheVariants as acts
use Rattle.serf_agent.specs.declared.outcome.ReceiveError.TheVariants as receives
use Rattle.serf_model.specs.declared.line.Answer.TheVariants as lines
use Rattle.serf_model.specs.declared.line.Refusal.TheVariants as refusals

-- ---- what an act enters is what its turn shows

abbrev is_query : Result Outcome ReceiveError → Bool
is_query (Ok (outcomes.Query handed ack rebroadcast)) = true
is_query _ = false

nothing : {X : Type 0} (b : Bool) → [] ≡ cond b (let none : List X = [] in none) []
nothing true = refl
nothing false = refl

got-as : (r : Result Message WireError) (x : Result Outcome ReceiveError) → got_query r x ≡ cond (is_query x) (query_brought r) []
got-as (Ok (query q)) (Ok (outcomes.Query handed ack rebroadcast)) = refl
got-as (Ok (query q)) (Ok (outcomes.Event out)) = refl
got-as (Ok (query q)) (Ok outcomes.Ack) = refl
got-as (Ok (query q)) (Ok outcomes.Response) = refl
got-as (Ok (query q)) (Ok (outcomes.Ignored reason)) = refl
got-as (Ok (query q)) (Ok (outcomes.Foreign kind)) = refl
got-as (Ok (query q)) (Ok outcomes.PushPull) = refl
got-as (Ok (query q)) (Err error) = refl
got-as (Ok (user_event e)) x = nothing (is_query x)
got-as (Ok (query_response r)) x = nothing (is_query x)
got-as (Ok (push_pull m)) x = nothing (is_query x)
got-as (Ok (foreign kind)) x = nothing (is_query x)
got-as (Err error) x = nothing (is_query x)

entered-as : (action : Action) (packet : List ℕ) (x : Result Outcome ReceiveError) → entered_by action (Some packet) (receive_gives packet x).answer ≡ cond (is_query x) (query_brought (decoded packet)) []
entered-as action packet (Ok (outcomes.Event out)) = refl
entered-as action packet (Ok (outcomes.Query handed ack rebroadcast)) = refl
entered-as action packet (Ok outcomes.Ack) = refl
entered-as action packet (Ok outcomes.Response) = refl
entered-as action packet (Ok (outcomes.Ignored reason)) = refl
entered-as action packet (Ok (outcomes.Foreign kind)) = refl
entered-as action packet (Ok outcomes.PushPull) = refl
entered-as action packet (Err error) = refl

fired_queries-as : (a : ℕ) (q : NewQuery) (x : Result FiredQuery QueryError) → asked_query q.id x ≡ entered_by (Of a (acts.Query q)) None (query_gives x).answer
fired_queries-as a q (Ok f) = refl
fired_queries-as a q (Err error) = refl

-- ---- which actions are fit

-- the durable text is whole, and Met holds of each query in it or in a tail
record TextHas (Met : TimedEntry ℕ → Type 0) (i : IdealAgent) (act : Act) : Type 0 where
  whole : (durable : List ℕ) → i.snapshot.durable ≡ Some durable → is_whole durable ≡ true
  met : (tail : List ℕ) → act ≡ acts.Restart tail → All Met (kept_queries whatever (text_after i tail))

-- an action is fit, as far as queries are concerned, if Met holds of the query that enters and of those in the tail
queries-fit : Below → (t : ℕ) (Met : TimedEntry ℕ → Type 0) (m : IdealNode) (sent : List (List ℕ)) (a : ℕ) (act : Act) → min_by_tail (Of a act) ≤ t → TextHas Met m.agent act → All Met (entered_by (Of a act) (given_by sent act) (apply m sent act).done.answer)
    → FitsAct (IsFit query_track t Met) (λ outs. Unit {0}) m sent act
queries-fit lower t Met m sent a (acts.Fire name payload coalesce) lowest has all = record { settings = tt; lowest = tt; entered = All-nil Met; opens = tt }
queries-fit lower t Met m sent a (acts.Deliver number now) lowest has all = λ packet at. record {
  settings = tt;
  lowest = tt;
  entered = (let x : Result Outcome ReceiveError = (planned m.agent (receive false m.agent now packet)).answer in subst (All Met) (entered-as (Of a (acts.Deliver number now)) packet x ∙ sym (got-as (decoded packet) x))
      (subst (λ (given : Option (List ℕ)). All Met (entered_by (Of a (acts.Deliver number now)) given (delivers m now given).done.answer)) at all));
  opens = tt;
}
queries-fit lower t Met m sent a (acts.Merge number join) lowest has all = (λ packet s at is runs. record { settings = tt; lowest = tt; entered = All-nil Met; opens = tt }, tt)
queries-fit lower t Met m sent a (acts.Query q) lowest has all =
    record { settings = tt; lowest = tt; entered = subst (All Met) (sym (fired_queries-as a q (planned m.agent (fire_query m.agent q.moment q.id q.name q.payload q.params)).answer)) all; opens = tt }
queries-fit lower t Met m sent a (acts.Restart tail) lowest has all = record {
  settings = refl;
  lowest = tail-tells query_track lower t m.agent tail m.agent.config (fresh_device (text_after m.agent tail)) has.whole lowest;
  entered = All-nil Met;
  opens = has.met tail refl;
}
queries-fit lower t Met m sent a (acts.Close now) lowest has all = record { settings = tt; lowest = tt; entered = All-nil Met; opens = tt }
queries-fit lower t Met m sent a acts.Save lowest has all = record { settings = tt; lowest = tt; entered = All-nil Met; opens = tt }
queries-fit lower t Met m sent a acts.Compact lowest has all = record { settings = tt; lowest = tt; entered = All-nil Met; opens = tt }
queries-fit lower t Met m sent a _ lowest has all = tt

-- ---- what was met

abbrev entered : Turn → List (TimedEntry ℕ)
entered turn = entered_by turn.action turn.given turn.line.answer

abbrev tailed : Turn → List (TimedEntry ℕ)
tailed turn = queries_tailed_by turn.action

-- a query entered at an agent, or is in its tails
abbrev pub WasMet : ℕ → List Turn → TimedEntry ℕ → Type 0
WasMet a turns e = IsMet (queries_at a turns) (query_tails_to a turns) e

met-more : (a : ℕ) (turns : List Turn) (turn : Turn) (e : TimedEntry ℕ) → WasMet a turns e → WasMet a (turns ++ turn ∷ []) e
met-more a turns turn e (inl h) = inl (by-more entered a turns turn e h)
met-more a turns turn e (inr h) = inr (by-more tailed a turns turn e h)

met-entered : (a : ℕ) (turns : List Turn) (turn : Turn) → is_agent a (actor_of turn.action) ≡ true → All (WasMet a (turns ++ turn ∷ [])) (entered turn)
met-entered a turns turn mine = all-in (WasMet a (turns ++ turn ∷ [])) (entered turn) (λ e h. inl (by-now entered a turns turn e mine h))

met-tailed : (a : ℕ) (turns : List Turn) (turn : Turn) → is_agent a (actor_of turn.action) ≡ true → All (WasMet a (turns ++ turn ∷ [])) (tailed turn)
met-tailed a turns turn mine = all-in (WasMet a (turns ++ turn ∷ [])) (tailed turn) (λ e h. inr (by-now tailed a turns turn e mine h))

-- ---- the queries in an agent's text

-- the text of an agent that keeps its events has only queries that were met
abbrev pub QueriesSay : List Config → ℕ → List Turn → IdealNode → Type 0
QueriesSay configs a turns m = m.agent.config.keep_events ≡ true → SaysQueries (WasMet a turns) m.agent

says-weaker : (P Q : TimedEntry ℕ → Type 0) (i : IdealAgent) → ((e : TimedEntry ℕ) → P e → Q e) → SaysQueries P i → SaysQueries Q i
says-weaker P Q i up says = record {
  entered = All-weaker (λ (p : Past ℕ). P p.entry) (λ (p : Past ℕ). Q p.entry) (λ p h. up p.entry h) i.queries.history says.entered;
  durable = λ text at. let d = says.durable text at in record { whole = d.whole; says = All-weaker P Q up (kept_queries whatever text) d.says };
}

-- the queries in the durable text followed by a tail
after-says : Below → (P : TimedEntry ℕ → Type 0) (i : IdealAgent) (tail : List ℕ) → SaysQueries P i → All P (kept_queries whatever tail) → All P (kept_queries whatever (text_after i tail))
after-says lower P i tail says more = by i.snapshot.durable refl
  where
    by : (k : Option (List ℕ)) → i.snapshot.durable ≡ k → All P (kept_queries whatever (unwrap_or k [] ++ tail))
    by None is = more
    by (Some durable) is =
        let d = says.durable durable is in
        subst (All P) (sym (ap (map query_entry) (lower.keeps.fired_queries_joined whatever durable tail d.whole) ∙ map-append query_entry (queries_in whatever durable) (queries_in whatever tail)))
        (All-append P (kept_queries whatever durable) (kept_queries whatever tail) d.says more)

-- the queries in a text on which an act opens, in the form that the laws of queries require
opens-said : (P : TimedEntry ℕ → Type 0) (x : LifeAct) → OpensOnly query_track P x → OpensOn P x
opens-said P (Opens config text d) opens = opens
opens-said P _ opens = tt

-- the same with another plan of failures
planned-says : (P : TimedEntry ℕ → Type 0) (i : IdealAgent) (change : FailurePlan → FailurePlan) → SaysQueries P i → SaysQueries P (with_plan change i)
planned-says P i change says = record { entered = says.entered; durable = λ text at. says.durable text at }

abbrev saying : Below → ℕ → (H S : List (TimedEntry ℕ)) → Keeping
saying lower t H S = record {
  Has = λ i. IsDurable i × SaysQueries (IsMet H S) i;
  Fits = IsFit query_track t (IsMet H S);
  Handing = λ outs. Unit {0};
  step = λ i x r has go fits. (
    durable-step lower i x r has.0 go,
    lower.keeps.said.stays H S i x r.consistent.sound has.0 r.consistent.observable.plan has.1 go fits.entered (opens-said (IsMet H S) x fits.opens),
  );
  takes = λ i e w outs. record { settings = tt; lowest = tt; entered = All-nil (IsMet H S); opens = tt };
  splits = nothing-splits;
  replanned = λ i change has. (durable-planned i change has.0, planned-says (IsMet H S) i change has.1);
}

-- ---- each step of a run

pub fits : Below → (configs : List Config) (c : Cluster) (turns : List Turn) (b : ℕ) (act : Act) (m : IdealNode) → IsAfter configs c turns → slice_get c.nodes b ≡ Some m → QueriesSay configs b turns m → m.agent.config.keep_events ≡ true → (t : ℕ)
    → (let turn = (applied c b act (apply m c.sent act)).turn in query_min_written turn ≤ t → FitsAct (IsFit query_track t (WasMet b (turns ++ turn ∷ []))) (λ outs. Unit {0}) m c.sent act)
fits lower configs c turns b act m h at says keeps t lowest = queries-fit lower t (WasMet b (turns ++ turn ∷ [])) m c.sent b act lowest has (met-entered b turns turn (eq-eqb b b refl))
  where
    turn : Turn
    turn = (applied c b act (apply m c.sent act)).turn

    now : SaysQueries (WasMet b (turns ++ turn ∷ [])) m.agent
    now = says-weaker (WasMet b turns) (WasMet b (turns ++ turn ∷ [])) m.agent (met-more b turns turn) (says keeps)

    has : TextHas (WasMet b (turns ++ turn ∷ [])) m.agent act
    has = record {
      whole = λ durable is. (now.durable durable is).whole;
      met = λ tail is. after-says lower (WasMet b (turns ++ turn ∷ [])) m.agent tail now (subst (λ (x : Act). All (WasMet b (turns ++ turn ∷ [])) (queries_tailed_by (Of b x))) is (met-tailed b turns turn (eq-eqb b b refl)));
    }

saying-acts : Below → (configs : List Config) (c : Cluster) (turns : List Turn) (b : ℕ) (act : Act) (m : IdealNode) → IsAfter configs c turns → CanTellIt configs (Of b act) → slice_get c.nodes b ≡ Some m → QueriesSay configs b turns m
    → (let o = apply m c.sent act in QueriesSay configs b (turns ++ (applied c b act o).turn ∷ []) (with_handed o.done.handed o.node))
saying-acts lower configs c turns b act m h tells at says keeps =
    let turn : Turn = (applied c b act (apply m c.sent act)).turn in
    let P : TimedEntry ℕ → Type 0 = WasMet b (turns ++ turn ∷ []) in
    let t : ℕ = query_min_written turn in
    let representable : IsRepresentable m.agent = all-at (λ m. IsRepresentable m.agent) c.nodes b m h.representable at in
    let on : m.agent.config.keep_events ≡ true = ap (λ (x : Config). x.keep_events) (sym (keeps-apply lower m c.sent b act representable).config) ∙ keeps in
    (acts-keep lower (saying lower t (queries_at b (turns ++ turn ∷ [])) (query_tails_to b (turns ++ turn ∷ []))) m c.sent act representable (tells-at configs c turns b act m h tells at) on (fits lower configs c turns b act m h at says on t (omega arith))
    (representable.durable on, says-weaker (WasMet b turns) P m.agent (met-more b turns turn) (says on))).1

pub saying-step : Below → (configs : List Config) (r : Run) (action : Action) → CanTellIt configs action → IsAfter configs r.cluster r.turns → EachIn (QueriesSay configs) r.cluster r.turns → EachIn (QueriesSay configs) (after_action r action).cluster (after_action r action).turns
saying-step lower configs r action tells h all =
    each_in-step (QueriesSay configs) r action (λ a turns turn m other says keeps. says-weaker (WasMet a turns) (WasMet a (turns ++ turn ∷ [])) m.agent (met-more a turns turn) (says keeps)) all
    (λ b act m is at. saying-acts lower configs r.cluster r.turns b act m h (subst (CanTellIt configs) is tells) at)

pub saying-start : Below → (configs : List Config) → EachIn (QueriesSay configs) (start configs).cluster []
saying-start lower configs = each-start (QueriesSay configs) configs (λ a config is keeps. lower.keeps.said.begins [] [] config [] (fresh_device []) (All-nil (WasMet a [])))

-- ---- the packet that a turn passes to its agent

-- if the answer shows that an agent processed the packet, its clock observed the query's time
hears-shown : (clock : ℕ) (action : Action) (given : Option (List ℕ)) (answer : Answer) → hears_query answer ≡ true → query_clock_shown clock action given answer ≡ query_clock_given clock action given
hears-shown clock action given lines.Query hears = refl
hears-shown clock action given (lines.Ignored reason) hears = refl
hears-shown clock action given _ hears = absurd (cc hears)

-- a query that is admitted enters if its line is kept
query-answer : (i : IdealAgent) (packet : List ℕ) (now : ℕ) (q : Query) (r : Option Reason) → r ≡ None → hears_query (receive_gives packet (planned i (query_received_as false r i now q)).answer).answer ≡ true
    → (receive_gives packet (planned i (query_received_as false r i now q)).answer).answer ≡ lines.Query
query-answer i packet now q (Some reason) none hears = absurd (cc none)
query-answer i packet now q None none hears =
    kept-or-failed (λ o. hears_query (receive_gives packet o.answer).answer ≡ true → (receive_gives packet o.answer).answer ≡ lines.Query) i (query_received_as false None i now q) (λ hears. refl) (λ d hears. absurd (cc hears)) hears

-- A query that an agent has to accept, with what entered at the agent before and what is in its tails.
record Coming : Type 0 where
  fired_queries : TimedEntry ℕ
  config : Config
  before : List (TimedEntry ℕ)
  stood : List (TimedEntry ℕ)
  new : IsMet before stood fired_queries → ⊥

-- the answer says that the query entered, or the query's time is full
abbrev Enters : Coming → Answer → Type 0
Enters g answer = (answer ≡ lines.Query) ⊎ IsFull g.config.per_time g.fired_queries.time g.before g.stood

read-enters : Below → (g : Coming) (i : IdealAgent) (number now clock : ℕ) (packet : List ℕ) (r : Result Message WireError) → IsReady i → i.queries.clock ≤ clock → query_clock_told clock (acts.Deliver number now) r ≤ g.fired_queries.time + g.config.query_buffer
    → Contains (query_brought r) g.fired_queries → TakesAt query_track g.fired_queries.time g.config g.before g.stood i → hears_query (receive_gives packet (planned i (receive_read false i now r)).answer).answer ≡ true → Enters g (receive_gives packet (planned i (receive_read false i now r)).answer).answer
read-enters lower g i number now clock packet (Ok (query q)) ready low young there takes hears =
    let same : g.fired_queries ≡ record { time = q.time; key = q.id } = only-in (record { time = q.time; key = q.id }) g.fired_queries there in
    let time : g.fired_queries.time ≡ q.time = ap (λ (x : TimedEntry ℕ). x.time) same in
    elim (lower.keeps.query_taking.takes g.fired_queries.time g.config g.before g.stood i g.fired_queries.key ready.consistent.sound takes tt (omega (arith, young, low, time)) g.new) [
      | inl none ↦ inl (query-answer i packet now q (query_admission i q.time q.id) (subst (λ (x : TimedEntry ℕ). query_admission i x.time x.key ≡ None) same none) hears)
      | inr full ↦ inr full
    ]
read-enters lower g i number now clock packet (Ok (user_event e)) ready low young there takes hears = absurd (none-in g.fired_queries there)
read-enters lower g i number now clock packet (Ok (query_response r)) ready low young there takes hears = absurd (none-in g.fired_queries there)
read-enters lower g i number now clock packet (Ok (push_pull m)) ready low young there takes hears = absurd (none-in g.fired_queries there)
read-enters lower g i number now clock packet (Ok (foreign kind)) ready low young there takes hears = absurd (none-in g.fired_queries there)
read-enters lower g i number now clock packet (Err error) ready low young there takes hears = absurd (none-in g.fired_queries there)

delivers-enters : Below → (g : Coming) (m : IdealNode) (b number now clock : ℕ) (given : Option (List ℕ)) → IsReady m.agent → m.agent.queries.clock ≤ clock → query_clock_shown clock (Of b (acts.Deliver number now)) given (delivers m now given).done.answer ≤ g.fired_queries.time + g.config.query_buffer
    → Contains (query_given given) g.fired_queries → TakesAt query_track g.fired_queries.time g.config g.before g.stood m.agent → hears_query (delivers m now given).done.answer ≡ true → Enters g (delivers m now given).done.answer
delivers-enters lower g m b number now clock None ready low young there takes hears = absurd (none-in g.fired_queries there)
delivers-enters lower g m b number now clock (Some packet) ready low young there takes hears =
    by m.agent.snapshot.stopped hears
  where
    told : query_clock_told clock (acts.Deliver number now) (decoded packet) ≤ g.fired_queries.time + g.config.query_buffer
    told = subst (λ (n : ℕ). n ≤ g.fired_queries.time + g.config.query_buffer) (hears-shown clock (Of b (acts.Deliver number now)) (Some packet) (delivers m now (Some packet)).done.answer hears) young

    by : (x : Bool) → (let call = cond x (answers m.agent (Err receives.Stopped)) (receive_read false m.agent now (decoded packet)) in
        hears_query (receive_gives packet (planned m.agent call).answer).answer ≡ true → Enters g (receive_gives packet (planned m.agent call).answer).answer)
    by true = λ hears. absurd (cc hears)
    by false = read-enters lower g m.agent number now clock packet (decoded packet) ready low told there takes

-- no merge has this answer
merge-silent : (m : IdealNode) (join : Bool) (f : Option MergeError) (r : Result Message WireError) → hears_query (merges_as f m join r).done.answer ≡ true → ⊥
merge-silent m join None (Ok (push_pull s)) hears = by (planned m.agent (hear m.agent s join)).answer hears
  where
    failed : (b : Bool) → hears_query (cond b (lines.Refused refusals.SinkError) lines.Merged) ≡ true → ⊥
    failed true hears = absurd (cc hears)
    failed false hears = absurd (cc hears)

    by : (x : Result (Unit {0}) MergeError) → hears_query (merges_heard m (events_of s.slots) (record { agent = (planned m.agent (hear m.agent s join)).agent; answer = x })).done.answer ≡ true → ⊥
    by (Ok done) hears = failed (merges_events (events_of s.slots) (planned m.agent (hear m.agent s join)).agent).failed hears
    by (Err error) hears = absurd (cc hears)
merge-silent m join (Some error) r hears = absurd (cc hears)
merge-silent m join None (Ok (user_event e)) hears = absurd (cc hears)
merge-silent m join None (Ok (query q)) hears = absurd (cc hears)
merge-silent m join None (Ok (query_response r)) hears = absurd (cc hears)
merge-silent m join None (Ok (foreign kind)) hears = absurd (cc hears)
merge-silent m join None (Err error) hears = absurd (cc hears)

acts-insert_new : Below → (g : Coming) (m : IdealNode) (sent : List (List ℕ)) (b clock : ℕ) (act : Act) → IsRepresentable m.agent → m.agent.queries.clock ≤ clock → query_clock_shown clock (Of b act) (given_by sent act) (apply m sent act).done.answer ≤ g.fired_queries.time + g.config.query_buffer
    → Contains (query_given (given_by sent act)) g.fired_queries → TakesAt query_track g.fired_queries.time g.config g.before g.stood m.agent → hears_query (apply m sent act).done.answer ≡ true → Enters g (apply m sent act).done.answer
acts-insert_new lower g m sent b clock (acts.Deliver number now) representable low young there takes hears = delivers-enters lower g m b number now clock (slice_get sent number) (ready m.agent representable) low young there takes hears
acts-insert_new lower g m sent b clock (acts.Merge number join) representable low young there takes hears = absurd (by (slice_get sent number) there hears)
  where
    by : (given : Option (List ℕ)) → Contains (query_given given) g.fired_queries → hears_query (merges_given m join given).done.answer ≡ true → ⊥
    by None there hears = none-in g.fired_queries there
    by (Some packet) there hears = merge-silent m join (merge_refusal m.agent.snapshot (decoded packet)) (decoded packet) hears
acts-insert_new lower g m sent b clock _ representable low young there takes hears = absurd (none-in g.fired_queries there)

-- a query that an agent has to accept enters, or the query's time is full
pub takes : Below → (configs : List Config) (c : Cluster) (turns : List Turn) (b : ℕ) (act : Act) (m : IdealNode) (e : TimedEntry ℕ) → IsRepresentable m.agent → CanTellAct m.agent.config act (given_by c.sent act) → m.agent.config.keep_events ≡ true
    → TakesAt query_track e.time m.agent.config (queries_at b turns) (query_tails_to b turns) m.agent → m.agent.queries.clock ≤ query_clock_of b turns
    → (let turn = (applied c b act (apply m c.sent act)).turn in
    query_clock_then (query_clock_of b turns) turn ≤ e.time + m.agent.config.query_buffer → query_min_written turn ≤ e.time → hears_query turn.line.answer ≡ true → Contains (query_given turn.given) e → IsToCome queries_shown configs b m.agent.config turns turn e
    → IsTaken queries_shown configs m.agent.config b turns turn e)
takes lower configs c turns b act m e representable tells keeps opens low young lowest hears there come = enters (acts-insert_new lower g m c.sent b (query_clock_of b turns) act representable low young there opens hears)
  where
    turn : Turn
    turn = (applied c b act (apply m c.sent act)).turn

    g : Coming
    g = record { fired_queries = e; config = m.agent.config; before = queries_at b turns; stood = query_tails_to b turns; new = come.new }

    enters : Enters g (apply m c.sent act).done.answer → IsTaken queries_shown configs m.agent.config b turns turn e
    enters (inl is) = inl (subst (λ (x : Answer). Contains (entered_by (Of b act) (given_by c.sent act) x) e) (sym is) there)
    enters (inr full) = inr (full-still queries_shown m.agent.config.per_time e.time configs b turns turn (by-more entered b turns turn) full)

abbrev pub query_run : RunTrack ℕ
query_run = record {
  which = query_track;
  shown = queries_shown;
  laws = λ lower. lower.keeps.query_taking;
  shows = query_shows;
  next = query_clock_then;
  clock_is = λ a turns. refl;
  clock_goes = λ c b clock act m low. (clocks-apply m c.sent b m.agent.events.clock clock act (omega arith, low)).1;
  clock_begins = λ config. (first-low config).1;
  entered_more = λ a turns turn e h. by-more entered a turns turn e h;
  tailed_more = λ configs a turns turn e h. by-more tailed a turns turn e h;
  begins = λ lower configs a config t keeps some. lower.keeps.query_taking.begins t config [] (fresh_device []) keeps (omega (arith, some));
  Says = QueriesSay;
  fits = fits;
  takes = takes;
  nobody = λ hears. cc hears;
}

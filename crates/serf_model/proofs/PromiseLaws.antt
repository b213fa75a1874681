-- What every run promises about events and queries, whatever is done in it.
use Rattle.serf_model.proofs.Names.{List, ap, refl, ◌++◌, ◌≡◌, Config, Below, Run, after, run_of, start, trace_of, QueriesKept, Held, HeldOrTailed, Later, Once, OnlyFired, OnlyFiredOrTailed, QueryFired, QueryHandedOnce, QueryLater, QueryOnce, SeenWasHandedOrTailed, AreConfigs, CanTell, NoneKeeps, AtEach, Turn, sent_in, turns_of, Action}
use Rattle.serf_model.specs.NotMissed.{Kept}
use Rattle.serf_model.proofs.TurnLaws.{fold_keeps, fold_keeps_at}
use Rattle.serf_model.proofs.RunLaws.{CanTellIt, IsAfter, after-step, tell-each}
use Rattle.serf_model.proofs.StartLaws.{after-start}
use Rattle.serf_model.proofs.OnceLaws.{once, query-once, later-step, query-later-step, later-start, query-later-start}
use Rattle.serf_model.proofs.FiredLaws.{IsFired, carries-alone, fired-alone, fired-step, fired-start}
use Rattle.serf_model.proofs.SeenLaws.{IsHere, here-start, here-step, seen-alone, seen-step, seen-start}
use Rattle.serf_model.proofs.NotMissedLaws.{IsTaking, kept-start, kept-step, taking-start, taking-step}
use Rattle.serf_model.proofs.EventsNotMissed.{event_run}
use Rattle.serf_model.proofs.PerAgent.{EachIn}
use Rattle.serf_model.proofs.QueriesNotMissed.{QueriesSay, query_run, saying-start, saying-step}
use Rattle.serf_model.proofs.HandedLaws.{IsHanded, handed-step, handed-start}
use Rattle.serf_model.proofs.QueryOrigins.{IsAsked, fired_queries-step, fired_queries-start}
use Rattle.serf_model.proofs.TraceLaws.{IsRead, sent-step, read-step, read-start, reads, actions-of}

-- what each action preserves
record IsGoing (configs : List Config) (r : Run) : Type 0 where
  after : IsAfter configs r.cluster r.turns
  fired : IsFired configs r.cluster r.turns
  later : Later r.turns
  query_later : QueryLater r.turns
  here : IsHere configs r.cluster r.turns
  seen : SeenWasHandedOrTailed configs r.turns
  handed : IsHanded r.turns
  taking : EachIn (IsTaking event_run configs) r.cluster r.turns
  kept : Kept configs r.turns
  queries_say : EachIn (QueriesSay configs) r.cluster r.turns
  queries_taking : EachIn (IsTaking query_run configs) r.cluster r.turns
  queries_kept : QueriesKept configs r.turns

going-step : Below → (configs : List Config) (r : Run) (action : Action) → CanTellIt configs action → IsGoing configs r → IsGoing configs (after r action)
going-step lower configs r action tells h = record {
  after = after-step lower configs r action tells h.after;
  fired = fired-step lower configs r action tells h.after h.fired;
  later = later-step lower configs r action h.after h.later;
  query_later = query-later-step lower configs r action h.after h.query_later;
  here = here-step lower configs r action tells h.after h.here;
  seen = seen-step lower configs r action h.here h.seen;
  handed = handed-step lower configs r action tells h.after h.handed;
  taking = taking-step lower event_run configs r action tells h.after h.here h.taking;
  kept = kept-step lower event_run configs r action tells h.after h.taking h.kept;
  queries_say = saying-step lower configs r action tells h.after h.queries_say;
  queries_taking = taking-step lower query_run configs r action tells h.after h.queries_say h.queries_taking;
  queries_kept = kept-step lower query_run configs r action tells h.after h.queries_taking h.queries_kept;
}

going-start : Below → (configs : List Config) → AreConfigs configs → IsGoing configs (start configs)
going-start lower configs ok = record {
  after = after-start lower configs ok;
  fired = fired-start lower configs;
  later = later-start;
  query_later = query-later-start;
  here = here-start lower configs;
  seen = seen-start configs;
  handed = handed-start;
  taking = taking-start lower event_run configs;
  kept = kept-start event_run configs;
  queries_say = saying-start lower configs;
  queries_taking = taking-start lower query_run configs;
  queries_kept = kept-start query_run configs;
}

going-run : Below → (configs : List Config) (actions : List Action) → AreConfigs configs → CanTell configs actions → IsGoing configs (run_of configs actions)
going-run lower configs actions ok told = fold_keeps_at (IsGoing configs) (CanTellIt configs) after (start configs) actions (going-start lower configs ok) (tell-each configs actions told) (going-step lower configs)

-- what is promised of a run's turns
pub record IsPromised (configs : List Config) (turns : List Turn) : Type 0 where
  pub once : Once turns
  pub only_fired : OnlyFiredOrTailed configs turns
  pub later : Later turns
  pub held : HeldOrTailed configs turns
  pub fired_alone : NoneKeeps configs → OnlyFired turns
  pub held_alone : NoneKeeps configs → Held turns
  pub query_once : QueryOnce turns
  pub query_later : QueryLater turns
  pub query_handed : QueryHandedOnce turns
  pub kept : Kept configs turns
  pub queries_kept : QueriesKept configs turns

pub promised : Below → (configs : List Config) (actions : List Action) → AreConfigs configs → CanTell configs actions → IsPromised configs (run_of configs actions).turns
promised lower configs actions ok told =
    let r : Run = run_of configs actions in
    let h : IsGoing configs (run_of configs actions) = going-run lower configs actions ok told in
    record {
      once = once configs r.cluster r.turns h.after;
      only_fired = h.fired.handed_out;
      later = h.later;
      held = (h.fired.carries, h.seen);
      fired_alone = λ none. fired-alone configs r.turns none h.fired.handed_out;
      held_alone = λ none. (carries-alone configs r.turns none h.fired.carries, seen-alone configs r.turns none h.seen);
      query_once = query-once configs r.cluster r.turns h.after;
      query_later = h.query_later;
      query_handed = λ a. (h.handed a).once;
      kept = h.kept;
      queries_kept = h.queries_kept;
    }

-- this promise doesn't depend on the settings
pub query-fired : Below → (configs : List Config) (actions : List Action) → QueryFired (run_of configs actions).turns
query-fired lower configs actions = (fold_keeps (λ (r : Run). IsAsked r.cluster r.turns) after (start configs) actions (fired_queries-start configs) (fired_queries-step lower)).fired

-- neither does this one
record IsShown (r : Run) : Type 0 where
  sent : r.cluster.sent ≡ sent_in r.turns
  read : AtEach IsRead r.turns

-- the turns of a run are read off its first actions and its trace
pub shown : Below → (configs : List Config) (done left : List Action) → AreConfigs configs → turns_of (done ++ left) (trace_of (run_of configs done)) ≡ (run_of configs done).turns
shown lower configs done left ok =
    let h : IsShown (run_of configs done) =
    fold_keeps IsShown after (start configs) done (record { sent = refl; read = read-start }) (λ r action h. record { sent = sent-step r action h.sent; read = read-step r action h.sent h.read }) in
    reads (run_of configs done) (done ++ left) left h.sent h.read (ap (λ l. l ++ left) (actions-of (start configs) done))

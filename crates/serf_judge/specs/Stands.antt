-- What a log has of a run: the events, or the queries, that its agents were handed.
use Rattle.std.specs.Prelude.{◌≡◌, ℕ, List, Some, map, filter, slice_get}
use Rattle.std.specs.Str.{bytes_eq}
use Rattle.serf_model.specs.Trace.{Turn, events_to, queries_to}
use Rattle.serf_judge.specs.declared.entry.EventEntry.{EventEntry}
use Rattle.serf_judge.specs.declared.entry.QueryEntry.{QueryEntry}
use Rattle.serf_judge.specs.Identity.{Identity, event_identity, query_identity}

-- For each agent's node, the log has exactly what the agent was handed, in that order, and it names no other node. A
-- log may name agents and write what they were handed in any way, as long as it doesn't write two different things at
-- an agent alike.
pub record StandsFor {X : Type 0} (handed : ℕ → List X) (log : List Identity) : Type 0 where
  pub node : ℕ → List ℕ
  pub written : ℕ → X → Identity
  pub own : (a : ℕ) → filter (λ i. bytes_eq i.node (node a)) log ≡ map (written a) (handed a)
  pub apart : (a : ℕ) (x y : X) → written a x ≡ written a y → x ≡ y
  pub named : (k : ℕ) (i : Identity) → slice_get log k ≡ Some i → (a : ℕ) × (i.node ≡ node a)

-- a log of the events, and one of the queries, that were handed to the agents of these turns
abbrev pub AreEventsOf : List Turn → List EventEntry → Type 0
AreEventsOf turns entries = StandsFor (λ a. events_to a turns) (map event_identity entries)

abbrev pub AreQueriesOf : List Turn → List QueryEntry → Type 0
AreQueriesOf turns entries = StandsFor (λ a. queries_to a turns) (map query_identity entries)

-- What is true of each agent of a cluster, whatever was done in it.
use Rattle.std.specs.Prelude.{◌≡◌, ◌≤◌, true}
use Rattle.std.specs.List.{AllByRecursion}
use Rattle.serf_lamport.specs.Clock.{max_clock}
use Rattle.serf_snapshot.specs.AppendsLine.{IsObservable}
use Rattle.serf_agent.specs.Ideal.{IdealAgent}
use Rattle.serf_agent.specs.KeptLives.{IsDurable}
use Rattle.serf_agent.specs.Sound.{IsSound}
use Rattle.serf_model.specs.Cluster.{Cluster}

-- the agent is sound, and its sink exposes what it keeps and has a plan of failures, as a sink in memory does
pub record IsConsistent (i : IdealAgent) : Type 0 where
  pub sound : IsSound i
  pub observable : IsObservable i.snapshot

-- the agent is consistent, its clocks fit into 64 bits, and if it keeps its events, everything that it entered is
-- durable
pub record IsRepresentable (i : IdealAgent) : Type 0 where
  pub consistent : IsConsistent i
  pub durable : i.config.keep_events ≡ true → IsDurable i
  pub events : i.events.clock ≤ max_clock
  pub queries : i.queries.clock ≤ max_clock

abbrev pub AreRepresentable : Cluster → Type 0
AreRepresentable c = AllByRecursion (λ m. IsRepresentable m.agent) c.nodes

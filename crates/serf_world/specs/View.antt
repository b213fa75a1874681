-- What a world stores of a cluster.
use Rattle.std.specs.Prelude.{◌≡◌, ℕ, Bool, List, [], ◌∷◌, ◌++◌, map, Option, Some, All, slice_get}
use Rattle.std.specs.Option.{option_map}
use Rattle.serf_agent.specs.DeliveredQuery.{DeliveredQuery}
use Rattle.serf_agent.specs.View.{ConcreteState, view_of}
use Rattle.serf_agent.specs.declared.config.Config.{Config}
use Rattle.serf_agent.specs.declared.open_query.OpenQuery.{OpenQuery}
use Rattle.serf_model.specs.declared.action.Action.{Action}
use Rattle.serf_model.specs.declared.line.Line.{Line}
use Rattle.serf_model.specs.AnswerPromises.{HoldsCounted, HoldsSent}
use Rattle.serf_model.specs.Cluster.{IdealNode, Cluster, Run, Stepped, run_of}
use Rattle.serf_model.specs.Kept.{KeepsPromises}
use Rattle.serf_model.specs.Ready.{AreRepresentable}
use Rattle.serf_model.specs.Runs.{AreConfigs}
use Rattle.serf_model.specs.Sizes.{HasSizes}
use Rattle.serf_model.specs.Tails.{BringsTold}
use Rattle.serf_model.specs.Trace.{turns_of}

-- an agent's concrete state, and the queries that were handed to it in this life; in the place of a query that was
-- answered there is None
pub record NodeState : Type 0 where
  pub concrete : ConcreteState
  pub handed : List (Option DeliveredQuery)

-- the agents, all packets that were sent, and whether memory ran out in a step
pub record WorldState : Type 0 where
  pub nodes : List NodeState
  pub sent : List (List ℕ)
  pub has_failed : Bool

-- what a world stores of an agent of a cluster
abbrev pub node_of : IdealNode → NodeState
node_of m = record { concrete = view_of m.agent; handed = m.handed }

-- the world stores the cluster
pub record IsViewed (c : Cluster) (w : WorldState) : Type 0 where
  pub nodes : map node_of c.nodes ≡ w.nodes
  pub sent : c.sent ≡ w.sent

-- the agent with this number
abbrev pub agent_at : WorldState → ℕ → Option ConcreteState
agent_at w a = option_map (λ s. s.concrete) (slice_get w.nodes a)

-- the world took the same step as the cluster: the line is the cluster's line, and the world stores the cluster
-- afterwards
pub record TakesStep (s : Stepped) (w : WorldState) (line : Line) : Type 0 where
  pub line_is : line ≡ s.turn.line
  pub view : IsViewed s.cluster w
  pub representable : AreRepresentable s.cluster

-- the line of the step was added to the lines before it
pub record AddsLine (s : Stepped) (w : WorldState) (old new : List Line) : Type 0 where
  pub view : IsViewed s.cluster w
  pub representable : AreRepresentable s.cluster
  pub lines : new ≡ old ++ s.turn.line ∷ []

-- the world stores the cluster after this run, and these are the run's lines
pub record IsAt (r : Run) (w : WorldState) (lines : List Line) : Type 0 where
  pub view : IsViewed r.cluster w
  pub representable : AreRepresentable r.cluster
  pub lines_are : lines ≡ map (λ t. t.line) r.turns

-- this holds of each open query that an agent stores, with the agent's number
abbrev pub StoresOpen : (ℕ → ℕ × OpenQuery → Type 0) → WorldState → Type 0
StoresOpen P w = (a : ℕ) (s : ConcreteState) → agent_at w a ≡ Some s → All (P a) s.fired_queries

-- A world did these actions, one after another, in a cluster of agents with these settings, and answered with these
-- lines. The turns that the actions and the lines show are those of a run that keeps all promises, and the world stores
-- the cluster after this run.
pub record HasDone (configs : List Config) (actions : List Action) (lines : List Line) (w : WorldState) : Type 0 where
  pub settings : AreConfigs configs
  pub sizes : All HasSizes actions
  pub told : All BringsTold actions
  pub view : IsViewed (run_of configs actions).cluster w
  pub representable : AreRepresentable (run_of configs actions).cluster
  pub lines_are : lines ≡ map (λ t. t.line) (run_of configs actions).turns
  pub turns : turns_of actions (record { lines = lines; sent = w.sent }) ≡ (run_of configs actions).turns
  pub promises : KeepsPromises configs (run_of configs actions)
  -- each open query that is stored holds what was counted, and everything that it holds was sent
  pub open_queries : StoresOpen (λ a. HoldsCounted a (run_of configs actions).turns) w
  pub open_queries_sent : StoresOpen (λ a. HoldsSent (run_of configs actions).turns) w

-- What an agent stores of the ideal agent.
use Rattle.std.specs.Prelude.{ℕ, List}
use Rattle.serf_wire.specs.declared.texts.EventBody.{EventBody}
use Rattle.serf_snapshot.specs.Device.{Device, FailurePlan, with_plan}
use Rattle.serf_snapshot.specs.AppendsLine.{SnapshotView, with_sink}
use Rattle.serf_agent.specs.declared.config.Config.{Config}
use Rattle.serf_agent.specs.declared.open_query.OpenQuery.{OpenQuery}
use Rattle.serf_agent.specs.Ideal.{IdealAgent}
use Rattle.serf_agent.specs.Tracks.{ConcreteTrack, view_of_track}

-- Everything that an agent stores: the same as the ideal agent, but of each history only the slots of this life. A slot
-- is for the times that equal its number modulo the buffer's size, and holds what was entered at the latest of them.
pub record ConcreteState : Type 0 where
  pub config : Config
  pub member_clock : ℕ
  pub events : ConcreteTrack EventBody
  pub queries : ConcreteTrack ℕ
  pub snapshot : SnapshotView
  pub fired_queries : List (ℕ × OpenQuery)

-- an agent: what it stores, and its sink
pub record AgentState : Type 0 where
  pub concrete : ConcreteState
  pub device : Device

abbrev pub view_of : IdealAgent → ConcreteState
view_of i =
    record {
      config = i.config;
      member_clock = i.member_clock;
      events = view_of_track i.config.event_buffer i.life i.events;
      queries = view_of_track i.config.query_buffer i.life i.queries;
      snapshot = i.snapshot;
      fired_queries = i.fired_queries;
    }

-- what an agent stores, with another snapshot
abbrev pub concrete_with : SnapshotView → ConcreteState → ConcreteState
concrete_with s concrete = record { config = concrete.config; member_clock = concrete.member_clock; events = concrete.events; queries = concrete.queries; snapshot = s; fired_queries = concrete.fired_queries }

-- the agent after the plan of its sink has changed, and nothing else
abbrev pub with_new_plan : (FailurePlan → FailurePlan) → AgentState → AgentState
with_new_plan change a = record { concrete = concrete_with (with_sink a.concrete.snapshot.durable change a.concrete.snapshot) a.concrete; device = with_plan change a.device }

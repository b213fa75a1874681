-- What is left of an agent after the line of an event is written and the event enters the buffer.
use Rattle.std.specs.Prelude.{◌≡◌, ◌<◌, ◌≤◌, ℕ, false, Result}
use Rattle.serf_wire.specs.declared.texts.EventBody.{EventBody}
use Rattle.serf_window.specs.Window.{count_in, time_in}
use Rattle.serf_snapshot.specs.declared.kind.ClockKind.TheVariants as kinds
use Rattle.serf_snapshot.specs.declared.snapshot.AppendLineError.{AppendLineError}
use Rattle.serf_snapshot.specs.AppendsLine.{Kept}
use Rattle.serf_agent.specs.Events.{event_entered, written_event}
use Rattle.serf_agent.specs.Ideal.{IdealAgent, with_snapshot}
use Rattle.serf_agent.specs.Steps.{AppendsOwnLine}
use Rattle.serf_agent.specs.View.{AgentState, ConcreteState, view_of}
use Rattle.serf_agent.specs.Written.{appended_with}

-- An event of this time may enter: the agent isn't stopped, and the time's slot has no later time and has room.
pub record MayEnter (agent : ConcreteState) (time : ℕ) : Type 0 where
  pub runs : agent.snapshot.stopped ≡ false
  pub not_later : time_in agent.events.slots time ≤ time
  pub not_full : count_in agent.events.slots time < agent.config.per_time

-- The agent is what the ideal agent is after the event's lines were written and the event has entered.
abbrev pub EntersEvent : ℕ → EventBody → ConcreteState → ConcreteState → Type 0
EntersEvent time what old new =
    (i : IdealAgent) → old ≡ view_of i
    → new ≡ view_of (with_snapshot (appended_with kinds.Event time (written_event i.config time what) i.snapshot Kept) (event_entered time what i))

-- What is left of the sink after the event's clock line is appended, with the event's own line if the settings keep
-- events.
abbrev pub AppendsEventLine : {T : Type 0} → ℕ → EventBody → AgentState → AgentState → Result T AppendLineError → Type 0
AppendsEventLine time what old new result = AppendsOwnLine kinds.Event time (written_event old.concrete.config time what) old new result

-- Events whose lines are in the tails of restarts: an agent that keeps its events restores them, although it is
-- possible that no agent fired them. This file also defines which events and queries an agent of this kind can write in
-- lines.
use Rattle.std.specs.Prelude.{◌≡◌, ◌⊎◌, ℕ, Bool, true, false, if◌then◌else◌, List, [], Option, Some, None, All, slice_get}
use Rattle.std.specs.List.{flat_map}
use Rattle.serf_wire.specs.declared.texts.EventBody.{EventBody}
use Rattle.serf_window.specs.Texts.{event_of}
use Rattle.serf_window.specs.Window.{TimedEntry}
use Rattle.serf_agent.specs.declared.config.Config.{Config}
use Rattle.serf_agent.specs.KeptTexts.{IsIdWritable, IsWritable, kept_events, whatever}
use Rattle.serf_model.specs.declared.action.Act.{Act}
use Rattle.serf_model.specs.declared.action.Act.TheVariants as acts
use Rattle.serf_model.specs.declared.action.Action.{Action}
use Rattle.serf_model.specs.declared.action.Action.TheVariants as actions
use Rattle.serf_model.specs.HandOuts.{events_given}
use Rattle.serf_model.specs.Trace.{Turn, actor_of, events_in_packet, turns_by}

-- Tails

-- the events whose lines are in the tail of a restart
abbrev pub tailed_by : Action → List (TimedEntry EventBody)
tailed_by (actions.Of agent (acts.Restart tail)) = kept_events whatever tail
tailed_by _ = []

-- whether these settings, if there are any, keep events
abbrev pub keeps : Option Config → Bool
keeps None = false
keeps (Some c) = c.keep_events

-- whether the agent that acts keeps its events, by its settings
abbrev pub actor_keeps : List Config → Option ℕ → Bool
actor_keeps configs None = false
actor_keeps configs (Some a) = keeps (slice_get configs a)

-- the events whose lines are in the tail of a turn's restart, if the agent that acts keeps its events
abbrev pub tailed_in : List Config → Turn → List (TimedEntry EventBody)
tailed_in configs turn = if actor_keeps configs (actor_of turn.action) then tailed_by turn.action else []

-- the events in the tails of all agents that keep their events, and of one of these agents
abbrev pub tail_events : List Config → List Turn → List (TimedEntry EventBody)
tail_events configs turns = flat_map (tailed_in configs) turns

abbrev pub tails_to : List Config → ℕ → List Turn → List (TimedEntry EventBody)
tails_to configs a turns = tail_events configs (turns_by a turns)

-- What can be written in lines

-- no agent keeps its events
abbrev pub NoneKeeps : List Config → Type 0
NoneKeeps configs = All (λ c. c.keep_events ≡ false) configs

-- What an act fires can be written in a line: the texts of an event are bytes, and the ID of a query is below 2^32.
abbrev pub BringsToldBy : Act → Type 0
BringsToldBy (acts.Fire name payload coalesce) = IsWritable (event_of name payload)
BringsToldBy (acts.Query q) = IsIdWritable q.id
BringsToldBy _ = Unit {0}

-- What an action fires or injects can be written in lines: the texts of the events in an injected packet are bytes.
abbrev pub BringsTold : Action → Type 0
BringsTold (actions.Inject bytes) = All (λ e. IsWritable e.key) (events_in_packet bytes)
BringsTold (actions.Of agent act) = BringsToldBy act

-- No agent keeps its events, or everything that these actions fire or inject can be written in lines.
abbrev pub CanTell : List Config → List Action → Type 0
CanTell configs actions = NoneKeeps configs ⊎ All BringsTold actions

-- If an agent with these settings keeps its events, it can write in lines what its act fires, and the events that its
-- packet carries.
abbrev pub CanTellAct : Config → Act → Option (List ℕ) → Type 0
CanTellAct config act given = config.keep_events ≡ true → BringsToldBy act × All (λ e. IsWritable e.key) (events_given given)

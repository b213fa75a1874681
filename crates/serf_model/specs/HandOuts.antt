-- What a turn hands out, and which queries enter. Like every promise, these are statements about a run's turns.
use Rattle.std.specs.Prelude.{◌≡◌, ◌⊎◌, ℕ, Bool, true, false, List, [], ◌∷◌, map, Option, Some, None, Result, Ok, All, Contains, slice_get}
use Rattle.std.specs.List.{flat_map}
use Rattle.std.specs.Option.{option_to_list}
use Rattle.serf_wire.specs.declared.error.WireError.{WireError}
use Rattle.serf_wire.specs.declared.texts.EventBody.{EventBody}
use Rattle.serf_wire.specs.Decoded.{decoded}
use Rattle.serf_wire.specs.Message.{Message, Query, query}
use Rattle.serf_window.specs.Window.{TimedEntry}
use Rattle.serf_agent.specs.declared.config.Config.{Config}
use Rattle.serf_agent.specs.Queries.{query_at}
use Rattle.serf_model.specs.declared.action.Act.TheVariants as acts
use Rattle.serf_model.specs.declared.action.Action.{Action}
use Rattle.serf_model.specs.declared.action.Action.TheVariants as actions
use Rattle.serf_model.specs.declared.line.Answer.{Answer}
use Rattle.serf_model.specs.declared.line.Answer.TheVariants as answers
use Rattle.serf_model.specs.declared.line.QueryLine.{QueryLine}
use Rattle.serf_model.specs.Trace.{Turn, AtEach, actor_of, event_in, events_in_packet, fired_at, fired_by, injected_in}

-- A turn hands out events and queries only to the agent that acts.
abbrev pub OnlyToActor : List Turn → Type 0
OnlyToActor turns =
    AtEach (λ before turn. All (λ e. actor_of turn.action ≡ Some e.agent) turn.line.events × All (λ h. actor_of turn.action ≡ Some h.agent) (option_to_list turn.line.handed)) turns

-- Events

-- the events in the packet that a turn passes to its agent
abbrev pub events_given : Option (List ℕ) → List (TimedEntry EventBody)
events_given None = []
events_given (Some packet) = events_in_packet packet

-- Each event that a turn hands out was fired in this turn, or is in the packet that the turn passes to its agent.
abbrev pub HandsOutGiven : List Turn → Type 0
HandsOutGiven turns =
    AtEach (λ before turn. All (λ e. Contains (fired_by turn.action turn.line.answer) (event_in e) ⊎ Contains (events_given turn.given) (event_in e)) turn.line.events) turns

-- the event that is new to the agent according to the answer: the one that it fired, or the one that it was given
abbrev pub new_in : Turn → List (TimedEntry EventBody)
new_in turn = by turn.line.answer
  where
    by : Answer → List (TimedEntry EventBody)
    by (answers.Fired t) = fired_at t turn.action
    by answers.New = events_given turn.given
    by _ = []

abbrev pub says_new : Answer → Bool
says_new (answers.Fired t) = true
says_new answers.New = true
says_new _ = false

-- If an agent fires an event, or answers that an event is new, it is handed exactly this event in the same turn.
abbrev pub NewIsHanded : List Turn → Type 0
NewIsHanded turns =
    AtEach (λ before turn. says_new turn.line.answer ≡ true → (e : TimedEntry EventBody) × (map event_in turn.line.events ≡ e ∷ []) × (new_in turn ≡ e ∷ [])) turns

-- Queries, as messages

-- the message of the query that an action fires at a time
abbrev pub message_at : List Config → ℕ → Action → List Query
message_at configs t (actions.Of agent (acts.Query q)) = map (λ c. query_at t c.name q.id q.name q.payload q.params) (option_to_list (slice_get configs agent))
message_at configs t _ = []

-- the message of the query that a turn fired
abbrev pub message_fired : List Config → Turn → List Query
message_fired configs turn = by turn.line.answer
  where
    by : Answer → List Query
    by (answers.Queried t) = message_at configs t turn.action
    by _ = []

-- the messages of the queries that were fired, by any agent
abbrev pub messages_fired : List Config → List Turn → List Query
messages_fired configs turns = flat_map (message_fired configs) turns

-- the query, if this message is one
abbrev pub query_message : Result Message WireError → List Query
query_message (Ok (query q)) = q ∷ []
query_message _ = []

abbrev pub message_given : Option (List ℕ) → List Query
message_given None = []
message_given (Some packet) = query_message (decoded packet)

-- the message of the query that entered in a turn: the one that was fired, or the one that was given
abbrev pub message_entered : List Config → Turn → List Query
message_entered configs turn = by turn.line.answer
  where
    by : Answer → List Query
    by (answers.Queried t) = message_at configs t turn.action
    by answers.Query = message_given turn.given
    by _ = []

-- A query that enters from a packet was fired before, as exactly this message, or the packet was injected.
abbrev pub MessagesFired : List Config → List Turn → Type 0
MessagesFired configs turns =
    AtEach (λ before turn. (packet : List ℕ) → turn.line.answer ≡ answers.Query → turn.given ≡ Some packet
    → All (Contains (messages_fired configs before)) (query_message (decoded packet)) ⊎ Contains (injected_in before) packet) turns

-- what is handed out of a query is what its message contains
pub record IsHandedOf (h : QueryLine) (q : Query) : Type 0 where
  pub time : h.time ≡ q.time
  pub id : h.id ≡ q.id
  pub name : h.name ≡ q.name
  pub payload : h.payload ≡ q.payload

-- A query that is handed out entered in the same turn.
abbrev pub HandsOutEntered : List Config → List Turn → Type 0
HandsOutEntered configs turns = AtEach (λ before turn. (h : QueryLine) → turn.line.handed ≡ Some h → (q : Query) × (message_entered configs turn ≡ q ∷ []) × IsHandedOf h q) turns

-- What a trace shows. Every promise about a run is stated in these words.
use Rattle.std.specs.Prelude.{◌≡◌, ℕ, ◌+◌, ◌==◌, Bool, false, List, [], ◌∷◌, ◌++◌, length, map, filter, take, drop, Option, Some, None, Result, Ok, slice_get}
use Rattle.std.specs.List.{flat_map}
use Rattle.std.specs.Option.{option_to_list}
use Rattle.serf_wire.specs.declared.error.WireError.{WireError}
use Rattle.serf_wire.specs.declared.texts.EventBody.{EventBody}
use Rattle.serf_wire.specs.Decoded.{decoded}
use Rattle.serf_wire.specs.Message.{Message, user_event, query, push_pull}
use Rattle.serf_window.specs.Texts.{event_of}
use Rattle.serf_window.specs.Window.{TimedEntry}
use Rattle.serf_agent.specs.States.{events_of}
use Rattle.serf_model.specs.declared.action.Act.{Act}
use Rattle.serf_model.specs.declared.action.Act.TheVariants as acts
use Rattle.serf_model.specs.declared.action.Action.{Action}
use Rattle.serf_model.specs.declared.action.Action.TheVariants as actions
use Rattle.serf_model.specs.declared.line.Answer.{Answer}
use Rattle.serf_model.specs.declared.line.Answer.TheVariants as answers
use Rattle.serf_model.specs.declared.line.EventLine.{EventLine}
use Rattle.serf_model.specs.declared.line.QueryLine.{QueryLine}
use Rattle.serf_model.specs.declared.line.Line.{Line}
use Rattle.serf_model.specs.declared.trace.Trace.{Trace}

-- Turns

-- the lines of a run, and all packets that were sent, numbered from 0
pub record Outcome : Type 0 where
  pub lines : List Line
  pub sent : List (List ℕ)

abbrev pub outcome_of : Trace → Outcome
outcome_of trace = record { lines = trace.lines; sent = trace.sent }

-- A turn of a run: an action, its result, the packet that it passed to its agent, if there is one, and the packets that
-- it sent.
pub record Turn : Type 0 where
  pub action : Action
  pub line : Line
  pub given : Option (List ℕ)
  pub packets : List (List ℕ)

-- the packet that an act passes to its agent, if these packets were sent before
abbrev pub given_by : List (List ℕ) → Act → Option (List ℕ)
given_by sent (acts.Deliver packet now) = slice_get sent packet
given_by sent (acts.Merge packet join) = slice_get sent packet
given_by sent _ = None

-- the packet that an action passes to its agent
abbrev pub packet_given : List (List ℕ) → Action → Option (List ℕ)
packet_given sent (actions.Inject bytes) = None
packet_given sent (actions.Of agent act) = given_by sent act

-- the turns after n packets were sent: the packets of each line follow those of the lines before it
abbrev pub turns_from : ℕ → List (List ℕ) → List Action → List Line → List Turn
turns_from n sent [] lines = []
turns_from n sent (action ∷ actions) [] = []
turns_from n sent (action ∷ actions) (line ∷ lines) =
    record { action = action; line = line; given = packet_given (take n sent) action; packets = take (length line.sent) (drop n sent) }
    ∷ turns_from (n + length line.sent) sent actions lines

-- the turns of a run, read off its actions and what it shows
abbrev pub turns_of : List Action → Outcome → List Turn
turns_of actions shown = turns_from 0 shown.sent actions shown.lines

-- all packets that these turns sent
abbrev pub sent_in : List Turn → List (List ℕ)
sent_in turns = flat_map (λ t. t.packets) turns

-- this holds at each turn, given all turns before it
abbrev pub AtEach : (List Turn → Turn → Type 0) → List Turn → Type 0
AtEach P turns = (before : List Turn) (turn : Turn) (rest : List Turn) → turns ≡ before ++ turn ∷ rest → P before turn

-- the agent that acts; an injection has none
abbrev pub actor_of : Action → Option ℕ
actor_of (actions.Inject bytes) = None
actor_of (actions.Of agent act) = Some agent

abbrev pub is_agent : ℕ → Option ℕ → Bool
is_agent a None = false
is_agent a (Some b) = b == a

-- the turns of an agent, in all its lives
abbrev pub turns_by : ℕ → List Turn → List Turn
turns_by a turns = filter (λ t. is_agent a (actor_of t.action)) turns

-- the packets that an action injects
abbrev pub injects_of : Action → List (List ℕ)
injects_of (actions.Inject bytes) = bytes ∷ []
injects_of (actions.Of agent act) = []

abbrev pub injected_in : List Turn → List (List ℕ)
injected_in turns = flat_map (λ t. injects_of t.action) turns

-- Events

-- the event that an event line shows: a time, a name and a payload
abbrev pub event_in : EventLine → TimedEntry EventBody
event_in e = record { time = e.time; key = event_of e.name e.payload }

-- the events that were handed to an agent, in all its lives
abbrev pub events_to : ℕ → List Turn → List (TimedEntry EventBody)
events_to a turns = map event_in (filter (λ e. e.agent == a) (flat_map (λ t. t.line.events) turns))

-- the event that an action fired, if its answer has this time
abbrev pub fired_at : ℕ → Action → List (TimedEntry EventBody)
fired_at t (actions.Of agent (acts.Fire name payload coalesce)) = record { time = t; key = event_of name payload } ∷ []
fired_at t _ = []

abbrev pub fired_by : Action → Answer → List (TimedEntry EventBody)
fired_by action (answers.Fired t) = fired_at t action
fired_by action _ = []

-- the events that were fired, by any agent
abbrev pub fired_in : List Turn → List (TimedEntry EventBody)
fired_in turns = flat_map (λ t. fired_by t.action t.line.answer) turns

-- the events that a message carries: its own, or those in its slots
abbrev pub events_brought : Result Message WireError → List (TimedEntry EventBody)
events_brought (Ok (user_event e)) = record { time = e.time; key = event_of e.name e.payload } ∷ []
events_brought (Ok (push_pull m)) = events_of m.slots
events_brought _ = []

-- the events that a packet carries
abbrev pub events_in_packet : List ℕ → List (TimedEntry EventBody)
events_in_packet packet = events_brought (decoded packet)

-- the events that injected packets carry: no agent has to have fired them
abbrev pub injected_events : List Turn → List (TimedEntry EventBody)
injected_events turns = flat_map events_in_packet (injected_in turns)

-- Queries

-- the query that a message carries: its time and its ID
abbrev pub query_brought : Result Message WireError → List (TimedEntry ℕ)
query_brought (Ok (query q)) = record { time = q.time; key = q.id } ∷ []
query_brought _ = []

abbrev pub query_given : Option (List ℕ) → List (TimedEntry ℕ)
query_given None = []
query_given (Some packet) = query_brought (decoded packet)

abbrev pub queried_at : ℕ → Action → List (TimedEntry ℕ)
queried_at t (actions.Of agent (acts.Query q)) = record { time = t; key = q.id } ∷ []
queried_at t _ = []

-- the query that entered at an action with this answer: the one that was fired, or the one that was given
abbrev pub entered_by : Action → Option (List ℕ) → Answer → List (TimedEntry ℕ)
entered_by action given (answers.Queried t) = queried_at t action
entered_by action given answers.Query = query_given given
entered_by action given _ = []

-- the queries that entered at an agent, in all its lives
abbrev pub queries_at : ℕ → List Turn → List (TimedEntry ℕ)
queries_at a turns = flat_map (λ t. entered_by t.action t.given t.line.answer) (turns_by a turns)

-- a query that was handed out, as the time and the ID by which it entered
abbrev pub handed_in : QueryLine → TimedEntry ℕ
handed_in h = record { time = h.time; key = h.id }

-- the queries that were handed to an agent, in all its lives
abbrev pub queries_to : ℕ → List Turn → List (TimedEntry ℕ)
queries_to a turns = map handed_in (filter (λ h. h.agent == a) (flat_map (λ t. option_to_list t.line.handed) turns))

-- the packets of the queries that were fired: a query is sent before its ack
abbrev pub query_packets : Answer → List (List ℕ) → List (List ℕ)
query_packets (answers.Queried t) packets = take 1 packets
query_packets _ packets = []

abbrev pub queried_in : List Turn → List (List ℕ)
queried_in turns = flat_map (λ t. query_packets t.line.answer t.packets) turns

-- The text of a run for people.
use Rattle.std.specs.Prelude.{◌^◌, ◌-◌, ◌≡◌, ℕ, ◌+◌, ◌++◌, if◌then◌else◌, List, [], ◌∷◌, Option, Some, None, Result, Ok, Err, codes, decimal, length, min, slice_get, sum_by}
use Rattle.std.specs.List.{flat_map}
use Rattle.std.specs.Option.{option_to_list}
use Rattle.serf_wire.specs.declared.error.WireError.{WireError}
use Rattle.serf_wire.specs.Decoded.{decoded}
use Rattle.serf_wire.specs.Message.{Message, user_event, query, query_response, push_pull, foreign}
use Rattle.serf_wire.specs.Slots.{SlotContent, empty, held}
use Rattle.serf_text.specs.Quoted.{quoted}
use Rattle.serf_agent.specs.declared.config.Config.{Config}
use Rattle.serf_model.specs.declared.action.Act.{Act}
use Rattle.serf_model.specs.declared.action.Act.TheVariants as acts
use Rattle.serf_model.specs.declared.action.Action.{Action}
use Rattle.serf_model.specs.declared.action.Action.TheVariants as actions
use Rattle.serf_model.specs.declared.line.EventLine.{EventLine}
use Rattle.serf_model.specs.declared.line.QueryLine.{QueryLine}
use Rattle.serf_model.specs.declared.line.Line.{Line}
use Rattle.serf_model.specs.Cluster.{Cluster, start, step}
use Rattle.serf_model.specs.Trace.{actor_of}
use Rattle.serf_text.specs.declared.cause.Cause.{Cause}
use Rattle.serf_text.specs.declared.stream_error.StreamError.{StreamError}
use Rattle.serf_text.specs.Gives.{BadLine}
use Rattle.serf_schedule.specs.Halted.{Halts}
use Rattle.serf_schedule.specs.Line.{Parsed}
use Rattle.serf_schedule.specs.Schedule.{schedule_of}
use Rattle.serf_schedule.specs.Show.{answer_text, packet_of}
use Rattle.serf_run_json.specs.CallWords.{call_word}
use Rattle.serf_run_json.specs.Members.{settings_in}

-- an agent, after a space: its name between quotes, or its number if there is no such agent
abbrev pub agent_words : Option Config → ℕ → List ℕ
agent_words (Some config) a = codes " " ++ quoted config.name
agent_words None a = codes " agent " ++ decimal a

abbrev pub agent_text : List Config → ℕ → List ℕ
agent_text settings a = agent_words (slice_get settings a) a

-- the agent that acts; an injection has none
abbrev pub actor_text : List Config → Option ℕ → List ℕ
actor_text settings None = []
actor_text settings (Some a) = agent_text settings a

-- two texts between quotes, each after a space
abbrev pub texts_text : List ℕ → List ℕ → List ℕ
texts_text first second = codes " " ++ quoted first ++ codes " " ++ quoted second

-- the arguments of what an agent does
abbrev pub arguments_text : Act → List ℕ
arguments_text (acts.Fire name payload coalesce) = texts_text name payload
arguments_text (acts.Query q) = texts_text q.name q.payload
arguments_text (acts.Deliver packet now) = codes " packet " ++ decimal packet
arguments_text (acts.Merge packet join) = codes " packet " ++ decimal packet ++ (if join then codes " in a join" else [])
arguments_text (acts.Respond handed now payload) = codes " to query " ++ decimal handed ++ codes " with " ++ quoted payload
arguments_text _ = []

-- what an action does: its word, and the arguments of what its agent does
abbrev pub call_text : Action → List ℕ
call_text (actions.Inject bytes) = call_word (actions.Inject bytes)
call_text (actions.Of agent act) = call_word (actions.Of agent act) ++ arguments_text act

-- the line of an action: its number, its agent, what it does, and its answer
unfoldable pub call_line : List Config → ℕ → Action → Line → List ℕ
call_line settings n action line =
    decimal n ++ actor_text settings (actor_of action) ++ codes " " ++ call_text action ++ codes ": " ++ answer_text line.answer ++ codes "\n"

-- how many events these slots have; the number stops at 2^64 - 1
abbrev pub count_in : SlotContent → ℕ
count_in empty = 0
count_in (held time events) = length events

abbrev pub event_count : List SlotContent → ℕ
event_count slots = min (sum_by count_in slots) (2 ^ 64 - 1)

-- a message in words
abbrev pub message_words : Message → List ℕ
message_words (user_event e) = codes "event " ++ decimal e.time ++ texts_text e.name e.payload
message_words (query q) = codes "query " ++ decimal q.time ++ codes " with ID " ++ decimal q.id ++ texts_text q.name q.payload
message_words (query_response r) =
    codes "answer to query " ++ decimal r.time ++ codes " with ID " ++ decimal r.id ++ codes " from " ++ quoted r.from ++ codes ": " ++ quoted r.payload
message_words (push_pull s) = codes "a state with event clock " ++ decimal s.event_clock ++ codes ", events: " ++ decimal (event_count s.slots)
message_words (foreign kind) = codes "a message of type " ++ decimal kind

-- a packet in words: the message that it decodes to, or only its length
abbrev pub decoded_words : ℕ → Result Message WireError → List ℕ
decoded_words count (Ok m) = message_words m
decoded_words count (Err error) = codes "no message, bytes: " ++ decimal count

abbrev pub packet_words : List ℕ → List ℕ
packet_words packet = decoded_words (length packet) (decoded packet)

-- the line of a packet that action number `n` sent
unfoldable pub sent_line : List (List ℕ) → ℕ → ℕ → List ℕ
sent_line sent n k = decimal n ++ codes " sends packet " ++ decimal k ++ codes ": " ++ packet_words (packet_of sent k) ++ codes "\n"

-- the line of an event that action number `n` handed out
unfoldable pub event_line : List Config → ℕ → EventLine → List ℕ
event_line settings n e = decimal n ++ agent_text settings e.agent ++ codes " is handed event " ++ decimal e.time ++ texts_text e.name e.payload ++ codes "\n"

-- the line of a query that action number `n` handed out
unfoldable pub query_line : List Config → ℕ → QueryLine → List ℕ
query_line settings n q = decimal n ++ agent_text settings q.agent ++ codes " is handed query " ++ decimal q.index
    ++ codes " of time " ++ decimal q.time ++ texts_text q.name q.payload ++ codes "\n"

-- The lines of action number `n`: what it does, with its answer, each packet that it sent, and each event and the query
-- that it handed out. `settings` are those of the agents, and `sent` are the packets that were sent so far, including
-- those of the action.
unfoldable pub action_text : List Config → List (List ℕ) → ℕ → Action → Line → List ℕ
action_text settings sent n action line = call_line settings n action line ++ flat_map (sent_line sent n) line.sent
    ++ flat_map (event_line settings n) line.events ++ flat_map (query_line settings n) (option_to_list line.handed)

-- the lines of the actions of a cluster, of which the first has this number
abbrev pub actions_text : Cluster → ℕ → List Action → List ℕ
actions_text c n [] = []
actions_text c n (action ∷ rest) =
    let after = step c action in
    action_text (settings_in after.cluster) after.cluster.sent n action after.turn.line ++ actions_text after.cluster (n + 1) rest

-- the text of a run: the lines of all its actions, which are counted from 1
abbrev pub run_text : List Config → List Action → List ℕ
run_text configs actions = actions_text (start configs).cluster 1 actions

abbrev pub tells_run : List Config → List Action → List ℕ → Type 0
tells_run configs actions text = text ≡ run_text configs actions

-- the text of the run of the schedule that a text stands for, or its first bad line
abbrev pub text_of : Result Parsed BadLine → Result (List ℕ) BadLine
text_of (Ok schedule) = Ok (run_text schedule.configs schedule.actions)
text_of (Err bad) = Err bad

abbrev pub readable_of : List ℕ → Result (List ℕ) BadLine
readable_of input = text_of (schedule_of input)

-- the first lines of a schedule were done, and the text of their run was written
abbrev pub IsHalted : StreamError Cause → List ℕ → Option (List ℕ) → Option (List ℕ) → Type 0
IsHalted error bytes first now = Halts (λ said text. tells_run said.configs said.actions text) error bytes first now

-- The objects of an action, of a packet that was sent, of an event and of the query that was handed out.
use Rattle.std.specs.Prelude.{ℕ, List, [], ◌∷◌, codes, Option, Some, None, Result, Ok, Err}
use Rattle.std.specs.List.{flat_map}
use Rattle.std.specs.Option.{option_to_list}
use Rattle.serf_agent.specs.declared.config.Config.{Config}
use Rattle.serf_json.specs.Json.{bytes_member}
use Rattle.serf_json.specs.Object.{object_text}
use Rattle.serf_model.specs.declared.action.Action.{Action}
use Rattle.serf_model.specs.declared.line.Answer.{Answer}
use Rattle.serf_model.specs.declared.line.Answer.TheVariants as answers
use Rattle.serf_model.specs.declared.line.EventLine.{EventLine}
use Rattle.serf_model.specs.declared.line.Line.{Line}
use Rattle.serf_model.specs.declared.line.QueryLine.{QueryLine}
use Rattle.serf_model.specs.declared.line.Refusal.{Refusal}
use Rattle.serf_model.specs.declared.line.Refusal.TheVariants as refusals
use Rattle.serf_model.specs.Trace.{actor_of}
use Rattle.serf_schedule.specs.Show.{answer_words, packet_of, reason_text, refusal_text}
use Rattle.serf_text.specs.MessageText.{text_or_error}
use Rattle.serf_text.specs.WireText.{wire_text}
use Rattle.serf_wire.specs.Decoded.{decoded}
use Rattle.serf_wire.specs.declared.error.WireError.{WireError}
use Rattle.serf_run_json.specs.CallWords.{call_word}
use Rattle.serf_run_json.specs.Members.{actor_text, agent_text, arguments_text, flag_member, hex_member, joined, number_member, text_member}

-- an answer's first word, and its code: the reason why something is ignored or refused
abbrev pub answer_word : Answer → List ℕ
answer_word (answers.Ignored reason) = codes "ignored"
answer_word (answers.Refused refusal) = codes "refused"
answer_word answer = answer_words answer

abbrev pub answer_code : Answer → Option (List ℕ)
answer_code (answers.Ignored reason) = Some (reason_text reason)
answer_code (answers.Refused refusal) = Some (refusal_text refusal)
answer_code answer = None

-- the member with a code, if there is one
abbrev pub code_text : Option (List ℕ) → List ℕ
code_text None = []
code_text (Some code) = text_member (codes "code") code

-- the members with an answer's numbers
unfoldable pub numbers_text : Answer → List ℕ
numbers_text (answers.Fired time) = joined (number_member (codes "time") time ∷ [])
numbers_text (answers.Queried time) = joined (number_member (codes "time") time ∷ [])
numbers_text (answers.Foreign kind) = joined (number_member (codes "type") kind ∷ [])
numbers_text (answers.Restarted member_clock event_clock query_clock) =
    joined (number_member (codes "clock") member_clock ∷ number_member (codes "event_clock") event_clock ∷ number_member (codes "query_clock") query_clock ∷ [])
numbers_text (answers.Closed count) = joined (number_member (codes "closed") count ∷ [])
numbers_text _ = []

-- the error of a packet, if an answer has one
abbrev pub refusal_error : Refusal → Option (List ℕ)
refusal_error (refusals.Wire error) = Some (wire_text error)
refusal_error _ = None

abbrev pub answer_error : Answer → Option (List ℕ)
answer_error (answers.Refused refusal) = refusal_error refusal
answer_error _ = None

abbrev pub error_text : Option (List ℕ) → List ℕ
error_text None = []
error_text (Some words) = text_member (codes "error") words

-- the members of an action: its number, its word, the agent that acts, its arguments, and what was answered
unfoldable pub action_members : List Config → ℕ → Action → Answer → List ℕ
action_members settings n action answer = joined (
    number_member (codes "action") n ∷ text_member (codes "call") (call_word action)
    ∷ actor_text settings (actor_of action) ∷ arguments_text action
    ∷ text_member (codes "answer") (answer_word answer) ∷ code_text (answer_code answer)
    ∷ numbers_text answer ∷ error_text (answer_error answer) ∷ [])

-- the text of a packet that contains a message
abbrev pub message_in : Result (List ℕ) WireError → List ℕ
message_in (Ok text) = text_member (codes "message") text
message_in (Err error) = []

-- the members of a packet that action number `n` sent: its number, its bytes, and its text if it contains a message
unfoldable pub sent_members : List (List ℕ) → ℕ → ℕ → List ℕ
sent_members sent n k = joined (
    number_member (codes "action") n ∷ number_member (codes "packet") k ∷ hex_member (codes "packet") (packet_of sent k)
    ∷ message_in (text_or_error (decoded (packet_of sent k))) ∷ [])

-- the members of an event that action number `n` handed out
unfoldable pub event_members : List Config → ℕ → EventLine → List ℕ
event_members settings n e = joined (
    number_member (codes "action") n ∷ agent_text settings e.agent ∷ number_member (codes "time") e.time
    ∷ bytes_member (codes "name") e.name ∷ bytes_member (codes "payload") e.payload ∷ flag_member (codes "coalesce") e.coalesce ∷ [])

-- the members of the query that action number `n` handed out
unfoldable pub query_members : List Config → ℕ → QueryLine → List ℕ
query_members settings n q = joined (
    number_member (codes "action") n ∷ agent_text settings q.agent ∷ number_member (codes "handed") q.index
    ∷ number_member (codes "time") q.time ∷ number_member (codes "id") q.id
    ∷ bytes_member (codes "name") q.name ∷ bytes_member (codes "payload") q.payload ∷ [])

-- their objects
abbrev pub sent_object : List (List ℕ) → ℕ → ℕ → List ℕ
sent_object sent n k = object_text (codes "sent") (sent_members sent n k)

abbrev pub event_object : List Config → ℕ → EventLine → List ℕ
event_object settings n e = object_text (codes "event") (event_members settings n e)

abbrev pub query_object : List Config → ℕ → QueryLine → List ℕ
query_object settings n q = object_text (codes "query") (query_members settings n q)

-- The objects of an action: the action with its answer, each packet that it sent, and each event and the query that it
-- handed out. `settings` are those of the agents, and `sent` are the packets that were sent so far.
unfoldable pub results_text : List Config → List (List ℕ) → ℕ → Action → Line → List ℕ
results_text settings sent n action line = joined (
    object_text (codes "action") (action_members settings n action line.answer)
    ∷ flat_map (sent_object sent n) line.sent
    ∷ flat_map (event_object settings n) line.events
    ∷ flat_map (query_object settings n) (option_to_list line.handed) ∷ [])

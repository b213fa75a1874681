-- The text of a trace.
use Rattle.std.specs.Prelude.{ℕ, ◌+◌, ◌++◌, List, [], ◌∷◌, codes, decimal, unwrap_or, slice_get}
use Rattle.std.specs.List.{flat_map}
use Rattle.std.specs.Option.{option_to_list}
use Rattle.serf_agent.specs.declared.outcome.Reason.{Reason}
use Rattle.serf_agent.specs.declared.outcome.Reason.TheVariants as reasons
use Rattle.serf_model.specs.declared.line.Refusal.{Refusal}
use Rattle.serf_model.specs.declared.line.Refusal.TheVariants as refusals
use Rattle.serf_model.specs.declared.line.Answer.{Answer}
use Rattle.serf_model.specs.declared.line.Answer.TheVariants as answers
use Rattle.serf_model.specs.declared.line.EventLine.{EventLine}
use Rattle.serf_model.specs.declared.line.QueryLine.{QueryLine}
use Rattle.serf_model.specs.declared.line.Line.{Line}
use Rattle.serf_model.specs.Trace.{Outcome}
use Rattle.serf_text.specs.TextParts.{flag_text, hex_text}
use Rattle.serf_text.specs.WireText.{wire_text}

-- why a packet was ignored
abbrev pub reason_text : Reason → List ℕ
reason_text reasons.Oversize = codes "Oversize"
reason_text reasons.BelowMinimum = codes "BelowMinimum"
reason_text reasons.TooOld = codes "TooOld"
reason_text reasons.Seen = codes "Seen"
reason_text reasons.TimeFull = codes "TimeFull"
reason_text reasons.NotOpen = codes "NotOpen"
reason_text reasons.OtherId = codes "OtherId"
reason_text reasons.Closed = codes "Closed"
reason_text reasons.AckNotRequested = codes "AckNotAsked"
reason_text reasons.AckTwice = codes "AckTwice"
reason_text reasons.ResponseTwice = codes "ResponseTwice"

-- why an action was refused, without the error of a packet
abbrev pub refusal_text : Refusal → List ℕ
refusal_text refusals.NoAgent = codes "NoAgent"
refusal_text refusals.NoMessage = codes "NoMessage"
refusal_text refusals.NoQuery = codes "NoQuery"
refusal_text refusals.Stopped = codes "Stopped"
refusal_text refusals.TooLarge = codes "TooLarge"
refusal_text refusals.TooLong = codes "TooLong"
refusal_text refusals.Exhausted = codes "Exhausted"
refusal_text refusals.ZeroTimeout = codes "ZeroTimeout"
refusal_text refusals.PastDeadline = codes "PastDeadline"
refusal_text refusals.NotPushPull = codes "NotPushPull"
refusal_text refusals.RespondersFull = codes "RespondersFull"
refusal_text refusals.SinkError = codes "SinkFault"
refusal_text (refusals.Wire error) = codes "Wire"

-- the words of an answer: its text without numbers, and without the error of a packet
abbrev pub answer_words : Answer → List ℕ
answer_words (answers.Fired time) = codes "fired"
answer_words answers.New = codes "new"
answer_words answers.Query = codes "query"
answer_words answers.Ack = codes "ack"
answer_words answers.Response = codes "response"
answer_words (answers.Ignored reason) = codes "ignored " ++ reason_text reason
answer_words (answers.Foreign kind) = codes "foreign"
answer_words answers.PushPull = codes "push-pull"
answer_words answers.State = codes "state"
answer_words answers.Merged = codes "merged"
answer_words (answers.Queried time) = codes "queried"
answer_words answers.Replied = codes "replied"
answer_words answers.Broken = codes "broken"
answer_words answers.Injected = codes "injected"
answer_words answers.Saved = codes "saved"
answer_words answers.Compacted = codes "compacted"
answer_words (answers.Restarted member_clock event_clock query_clock) = codes "restarted"
answer_words (answers.Closed count) = codes "closed"
answer_words (answers.Refused refusal) = codes "refused " ++ refusal_text refusal

-- a number after a space
unfoldable pub after_space : ℕ → List ℕ
after_space n = codes " " ++ decimal n

-- a space and the error of a packet, if a refusal has one
abbrev pub error_details : Refusal → List ℕ
error_details (refusals.Wire error) = codes " " ++ wire_text error
error_details _ = []

-- the numbers of an answer, or the error of a packet, each after a space
abbrev pub answer_details : Answer → List ℕ
answer_details (answers.Fired time) = after_space time
answer_details (answers.Foreign kind) = after_space kind
answer_details (answers.Queried time) = after_space time
answer_details (answers.Restarted member_clock event_clock query_clock) =
    after_space member_clock ++ after_space event_clock ++ after_space query_clock
answer_details (answers.Closed count) = after_space count
answer_details (answers.Refused refusal) = error_details refusal
answer_details _ = []

abbrev pub answer_text : Answer → List ℕ
answer_text answer = answer_words answer ++ answer_details answer

-- the packet with a number
abbrev pub packet_of : List (List ℕ) → ℕ → List ℕ
packet_of sent k = unwrap_or (slice_get sent k) []

-- a line with an action's number and then this text
abbrev pub numbered : ℕ → List ℕ → List ℕ
numbered n text = decimal n ++ codes " " ++ text ++ codes "\n"

unfoldable pub answer_line : ℕ → Answer → List ℕ
answer_line n answer = numbered n (answer_text answer)

unfoldable pub sent_line : List (List ℕ) → ℕ → ℕ → List ℕ
sent_line sent n k = numbered n (codes "sent " ++ decimal k ++ codes " " ++ hex_text (packet_of sent k))

-- a number and a space after it
unfoldable pub spaced : ℕ → List ℕ
spaced n = decimal n ++ codes " "

-- a name and a payload
unfoldable pub texts_text : List ℕ → List ℕ → List ℕ
texts_text name payload = hex_text name ++ codes " " ++ hex_text payload

-- an event's texts, and whether it may be coalesced
unfoldable pub event_tail : EventLine → List ℕ
event_tail e = texts_text e.name e.payload ++ codes " " ++ flag_text e.coalesce

unfoldable pub event_line : ℕ → EventLine → List ℕ
event_line n e = numbered n (codes "event " ++ spaced e.agent ++ spaced e.time ++ event_tail e)

-- the agent, the query's number at it, and the query's time and ID, each with a space after it
unfoldable pub identity_text : QueryLine → List ℕ
identity_text q = spaced q.agent ++ spaced q.index ++ spaced q.time ++ spaced q.id

unfoldable pub handed_line : ℕ → QueryLine → List ℕ
handed_line n q = numbered n (codes "handed " ++ identity_text q ++ texts_text q.name q.payload)

-- an action's lines: its answer, what it sent, and what it handed out
unfoldable pub action_text : List (List ℕ) → ℕ → Line → List ℕ
action_text sent n line = answer_line n line.answer ++ flat_map (sent_line sent n) line.sent
    ++ flat_map (event_line n) line.events ++ flat_map (handed_line n) (option_to_list line.handed)

-- the lines of actions, of which the first has this number
abbrev pub actions_text : List (List ℕ) → ℕ → List Line → List ℕ
actions_text sent n [] = []
actions_text sent n (line ∷ lines) = action_text sent n line ++ actions_text sent (n + 1) lines

-- the lines of all actions, which are counted from 1
abbrev pub trace_text : Outcome → List ℕ
trace_text outcome = actions_text outcome.sent 1 outcome.lines

-- The expected reply to a call, as the model's turn shows it.
use Rattle.std.specs.Prelude.{ℕ, ◌==◌, ◌&&◌, ◌++◌, Bool, if◌then◌else◌, List, [], ◌∷◌, length, map, codes, Result, Ok, Err}
use Rattle.std.specs.Option.{option_to_list}
use Rattle.std.specs.Str.{bytes_eq}
use Rattle.serf_wire.specs.declared.error.WireError.{WireError}
use Rattle.serf_wire.specs.Decoded.{decoded}
use Rattle.serf_wire.specs.Message.{Message, query_response}
use Rattle.serf_model.specs.declared.line.Answer.{Answer}
use Rattle.serf_model.specs.declared.line.Answer.TheVariants as answers
use Rattle.serf_model.specs.declared.line.EventLine.{EventLine}
use Rattle.serf_model.specs.declared.line.QueryLine.{QueryLine}
use Rattle.serf_model.specs.declared.line.Line.{Line}
use Rattle.serf_text.specs.Gives.{BadLine}
use Rattle.serf_schedule.specs.Show.{answer_text}
use Rattle.serf_conform.specs.declared.reply_line.ReplyLine.{ReplyLine}
use Rattle.serf_conform.specs.declared.reply_line.ReplyLine.TheVariants as lines
use Rattle.serf_conform.specs.Reply.{Said}
use Rattle.serf_conform.specs.declared.judging.Judgement.{Judgement}
use Rattle.serf_conform.specs.declared.judging.Judgement.TheVariants.{Agrees, Differs, Unsupported}
use Rattle.serf_conform.specs.Meaning.{reply_means}

-- the line for the ack, or the response, in a message
abbrev pub ack_of : Result Message WireError → List ReplyLine
ack_of (Ok (query_response r)) = lines.CountedAck r.time r.id r.from ∷ []
ack_of _ = []

abbrev pub response_of : Result Message WireError → List ReplyLine
response_of (Ok (query_response r)) = lines.CountedResponse r.time r.id r.from r.payload ∷ []
response_of _ = []

-- what was counted, if the call carried this packet
abbrev pub counted_lines : Answer → List ℕ → List ReplyLine
counted_lines answers.Ack given = ack_of (decoded given)
counted_lines answers.Response given = response_of (decoded given)
counted_lines _ given = []

abbrev pub event_said : EventLine → ReplyLine
event_said e = lines.Event e.time e.name e.payload e.coalesce

abbrev pub handed_said : QueryLine → ReplyLine
handed_said q = lines.DeliveredQuery q.index q.time q.id q.name q.payload

-- what the line of an action shows, if the action sent these packets and the call carried this packet
abbrev pub expected_lines : Line → List ℕ → List (List ℕ) → List ReplyLine
expected_lines line given packets = counted_lines line.answer given ++ map (λ p. lines.Sent p) packets ++ map event_said line.events
    ++ map handed_said (option_to_list line.handed)

abbrev pub expected_reply_of : Line → List ℕ → List (List ℕ) → Said
expected_reply_of line given packets = record { answer = answer_text line.answer; lines = expected_lines line given packets }

-- An agent that is opened on an empty snapshot has three clocks of 1.
abbrev pub opening : Said
opening = record { answer = codes "opened 1 1 1"; lines = [] }

-- The agent has no such call.
abbrev pub is_unsupported : Said → Bool
is_unsupported said = bytes_eq said.answer (codes "unsupported") && (length said.lines == 0)

-- A reply that can't be read differs.
abbrev pub judged : List ℕ → Said → Result Said BadLine → Judgement
judged given wanted (Err bad) = Differs
judged given wanted (Ok said) = if is_unsupported said then Unsupported else if reply_means given wanted said then Agrees else Differs

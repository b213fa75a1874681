-- What C reads of an ack's or a response's packet.
use Rattle.std.specs.Prelude.{◌≡◌, Option, Some, None, length}
use Rattle.serf_wire.specs.Message.{QueryResponse}
use Rattle.serf_agent.specs.Queries.{is_ack}
use Rattle.serf_agent_c.specs.declared.code.Code.{Code}
use Rattle.serf_agent_c.specs.declared.code.Code.TheVariants.{Done, Nothing}
use Rattle.serf_agent_c.specs.declared.heads.AnswerHead.{AnswerHead}

abbrev pub answer_head : QueryResponse → AnswerHead
answer_head r = record { time = r.time; from_len = length r.from; payload_len = length r.payload; id = r.id; is_ack = is_ack r }

-- C reads the contents of the answer. If the packet isn't an answer, the code is Nothing.
abbrev pub ReadsAnswer : Option QueryResponse → (QueryResponse → Type 0) → Code → Type 0
ReadsAnswer None P code = code ≡ Nothing
ReadsAnswer (Some r) P code = (code ≡ Done) × P r

-- What C reads of the queries that the last call closed, and whether the host's file is worth a compaction.
use Rattle.std.specs.Prelude.{◌≡◌, ◌<◌, ◌-◌, ◌^◌, ℕ, Bool, true, false, List, Option, Some, None, IfSome, length, slice_get}
use Rattle.serf_snapshot.specs.Compaction.{is_worth_compacting, is_worth_replacing}
use Rattle.serf_agent.specs.declared.lists.Response.{Response}
use Rattle.serf_agent.specs.declared.open_query.OpenQuery.{OpenQuery}
use Rattle.serf_agent.specs.States.{written_lines}
use Rattle.serf_agent.specs.Written.{text_with}
use Rattle.serf_agent.specs.View.{ConcreteState}
use Rattle.serf_agent_c.specs.declared.heads.ClosedHead.{ClosedHead}
use Rattle.serf_agent_c.specs.declared.heads.ResponseHead.{ResponseHead}

abbrev pub closed_head : ℕ × OpenQuery → ClosedHead
closed_head q = record { time = q.0; deadline = q.1.deadline; acks = length q.1.acks; responses = length q.1.responses; id = q.1.id }

abbrev pub response_head : Response → ResponseHead
response_head r = record { from_len = length r.from; payload_len = length r.payload }

-- the name of the node that sent the ack with a number, and the response with a number; both are numbered from 0 in
-- order of arrival
abbrev pub ack_of : ℕ → Option (ℕ × OpenQuery) → Option (List ℕ)
ack_of number None = None
ack_of number (Some q) = slice_get q.1.acks number

abbrev pub response_of : ℕ → Option (ℕ × OpenQuery) → Option Response
response_of number None = None
response_of number (Some q) = slice_get q.1.responses number

-- A text is worth a compaction if and only if it is longer than the limit and a compaction removes at least half of it.
-- The compaction leaves the lines of what the buffers hold if the settings keep events, and otherwise one line for each
-- clock. A text is never worth it if the sink failed, or if the limit is 2^64 - 1.
abbrev pub TellsCompaction : ℕ → ConcreteState → Bool → Type 0
TellsCompaction limit a should =
    (a.snapshot.stopped ≡ false → IfSome a.snapshot.durable (λ text. should ≡ is_worth_replacing limit (text_with (written_lines a) a.snapshot) text))
    × (a.config.keep_events ≡ false → a.snapshot.stopped ≡ false → limit < 2 ^ 64 - 1 → IfSome a.snapshot.durable (λ text. should ≡ is_worth_compacting limit a.snapshot text))
    × (a.snapshot.stopped ≡ true → should ≡ false)
    × (limit ≡ 2 ^ 64 - 1 → should ≡ false)

-- Which acks and responses are counted of a packet.
use Rattle.std.specs.Prelude.{◌≡◌, ℕ, Bool, List, Option, Some, None, IsSomeAnd, Result, Ok, Err}
use Rattle.serf_wire.specs.declared.error.WireError.{WireError}
use Rattle.serf_wire.specs.Decoded.{decoded}
use Rattle.serf_wire.specs.Message.{Message, QueryResponse, user_event, query, query_response, push_pull, foreign}
use Rattle.serf_agent.specs.declared.open_query.OpenQuery.{OpenQuery}
use Rattle.serf_agent.specs.Queries.{fired_query_at, counted, is_ack, with_fired_query_at}

-- the ack or response that a message is, if it is one
abbrev pub answer_of : Message → Option QueryResponse
answer_of (user_event e) = None
answer_of (query q) = None
answer_of (query_response r) = Some r
answer_of (push_pull m) = None
answer_of (foreign kind) = None

abbrev pub answer_read : Result Message WireError → Option QueryResponse
answer_read (Ok m) = answer_of m
answer_read (Err error) = None

-- the ack or response that a packet contains, if it contains one
abbrev pub answer_in : List ℕ → Option QueryResponse
answer_in packet = answer_read (decoded packet)

-- the open query of the answer's time has the answer's ID; it has counted this answer, and no other open query has
-- changed
abbrev pub Counts : QueryResponse → List (ℕ × OpenQuery) → List (ℕ × OpenQuery) → Type 0
Counts r old new = IsSomeAnd (fired_query_at r.time old) (λ q. (q.id ≡ r.id) × (new ≡ with_fired_query_at r.time (counted r q) old))

-- an ack, or a response, was counted, and it is this one
abbrev pub CountsAnswer : Bool → Option QueryResponse → List (ℕ × OpenQuery) → List (ℕ × OpenQuery) → Type 0
CountsAnswer ack answer old new = IsSomeAnd answer (λ r. (is_ack r ≡ ack) × Counts r old new)

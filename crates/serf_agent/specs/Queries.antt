-- What the ideal agent does with queries, their acks and their responses (`serf.go`, `Query`, `handleQuery` and
-- `handleQueryResponse`; `query.go`).
use Rattle.std.specs.Prelude.{ℕ, ℤ, pos, negsuc, ◌+◌, ◌-◌, ◌^◌, ◌==◌, min, nat_lt, nat_le, nat_eq, bit_and, not, Bool, true, false, ◌&&◌, if◌then◌else◌, List, [], ◌∷◌, ◌++◌, length, filter, Option, Some, None, Result, Ok, Err}
use Rattle.std.specs.List.{list_any, list_all}
use Rattle.std.specs.Map.{lookup, set_value}
use Rattle.std.specs.Str.{bytes_eq}
use Rattle.serf_lamport.specs.Clock.{max_clock}
use Rattle.serf_wire.specs.Canonical.{canonical}
use Rattle.serf_wire.specs.Message.{Query, QueryResponse, query, response_of}
use Rattle.serf_wire.specs.Passes.{passes_of}
use Rattle.serf_window.specs.Queries.{same_id}
use Rattle.serf_snapshot.specs.declared.kind.ClockKind.TheVariants as kinds
use Rattle.serf_snapshot.specs.EventLines.{query_line}
use Rattle.serf_agent.specs.declared.config.Config.{Config}
use Rattle.serf_agent.specs.declared.open_query.OpenQuery.{OpenQuery}
use Rattle.serf_agent.specs.declared.outcome.FiredQuery.{FiredQuery}
use Rattle.serf_agent.specs.declared.outcome.QueryError.{QueryError}
use Rattle.serf_agent.specs.declared.outcome.QueryError.TheVariants as errors
use Rattle.serf_agent.specs.declared.outcome.QueryParams.{QueryParams}
use Rattle.serf_agent.specs.declared.outcome.Outcome.{Outcome}
use Rattle.serf_agent.specs.declared.outcome.Outcome.TheVariants as outcomes
use Rattle.serf_agent.specs.declared.outcome.Reason.{Reason}
use Rattle.serf_agent.specs.declared.outcome.Reason.TheVariants.{NotOpen, OtherId, Closed, AckNotRequested, AckTwice, ResponseTwice}
use Rattle.serf_agent.specs.declared.outcome.ReceiveError.{ReceiveError}
use Rattle.serf_agent.specs.declared.outcome.ReceiveError.TheVariants.{RespondersFull, SinkError}
use Rattle.serf_agent.specs.declared.outcome.RespondError.{RespondError}
use Rattle.serf_agent.specs.declared.outcome.RespondError.TheVariants as responds
use Rattle.serf_agent.specs.DeliveredQuery.{DeliveredQuery}
use Rattle.serf_agent.specs.Ideal.{IdealAgent, with_queries, with_fired_queries}
use Rattle.serf_agent.specs.Tracks.{track_reason, track_observed, track_entered}
use Rattle.serf_agent.specs.Calls.{Call, Ends, AppendsLine, Step, answers}
use Rattle.serf_agent.specs.Events.{drawn}

-- A query and what is handed out of it

-- the flags that request acks and forbid a rebroadcast (`messages.go`, `queryFlagAck` and `queryFlagNoBroadcast`)
abbrev pub ack_flag : ℕ
ack_flag = 1

abbrev pub no_broadcast_flag : ℕ
no_broadcast_flag = 2

abbrev pub has_flag : ℕ → ℕ → Bool
has_flag flag flags = not (bit_and flags flag == 0)

-- whether a filter is a tag filter (`query.go`, `filterTagType`)
abbrev pub is_tag_filter : List ℕ → Bool
is_tag_filter [] = false
is_tag_filter (kind ∷ bytes) = kind == 1

-- whether every filter lets a node pass, given the host's verdict on the query's tag filters
abbrev pub all_pass : Bool → List (List ℕ) → List ℕ → Bool
all_pass tags filters node = list_all (λ f. if tags && is_tag_filter f then true else passes_of f node) filters

-- the last moment at which a query of this timeout can be answered: at most 2^64 - 1, and the present moment if the
-- timeout is 0 or negative
abbrev pub deadline_of : ℕ → ℤ → ℕ
deadline_of now (pos timeout) = min (now + timeout) (2 ^ 64 - 1)
deadline_of now (negsuc timeout) = now

-- what an agent with these settings hands out of a query
abbrev pub handed_query : Config → ℕ → Query → DeliveredQuery
handed_query config now q =
    record {
      time = q.time;
      id = q.id;
      name = q.name;
      payload = q.payload;
      source = q.source;
      addr = q.addr;
      port = q.port;
      relay_factor = q.relay_factor;
      deadline = deadline_of now q.timeout;
      response_limit = config.response_limit;
      node = config.name;
    }

-- a node's ack of a query
abbrev pub ack_packet : List ℕ → Query → List ℕ
ack_packet node q = canonical (response_of q.time q.id node ack_flag [])

-- what is handed out, and the ack that is sent, if the filters let the node pass
abbrev pub handed_if_passed : Bool → Config → ℕ → Query → Option DeliveredQuery
handed_if_passed tags config now q = if all_pass tags q.filters config.name then Some (handed_query config now q) else None

abbrev pub ack_if_passed : Bool → List ℕ → Query → Option (List ℕ)
ack_if_passed tags node q = if all_pass tags q.filters node then (if has_flag ack_flag q.flags then Some (ack_packet node q) else None) else None

-- Answering a query that was handed out

-- the packet of a response, which has no flags
abbrev pub response_packet : DeliveredQuery → List ℕ → List ℕ
response_packet h payload = canonical (response_of h.time h.id h.node 0 payload)

-- why the query can't be answered with this payload at this moment: the first reason that applies
abbrev pub respond_error : DeliveredQuery → ℕ → List ℕ → Option RespondError
respond_error h now payload =
    if nat_lt h.deadline now then Some responds.PastDeadline else
    if nat_lt h.response_limit (length (response_packet h payload)) then Some responds.TooLarge else None

-- A query that is received

-- why a query is ignored, or None if it is new; two queries of one time are distinguished by their IDs alone
abbrev pub query_admission : IdealAgent → ℕ → ℕ → Option Reason
query_admission i t id = track_reason same_id i.config.query_buffer i.config.per_time i.life i.queries t id

abbrev pub query_observed : ℕ → IdealAgent → IdealAgent
query_observed t i = with_queries (track_observed t i.queries) i

abbrev pub query_entered : ℕ → ℕ → IdealAgent → IdealAgent
query_entered t id i = with_queries (track_entered i.life t id i.queries) i

-- the query's own line, which is written in addition to its clock line if the settings keep events
abbrev pub written_query : Config → ℕ → ℕ → Option (List ℕ)
written_query config t id = if config.keep_events then Some (query_line t id) else None

-- if the query is new, its line is written even if the filters exclude this node, and then it enters
abbrev pub query_received_as : Bool → Option Reason → IdealAgent → ℕ → Query → Call (Result Outcome ReceiveError)
query_received_as tags (Some reason) i now q = Ends record { agent = query_observed q.time i; answer = Ok (outcomes.Ignored reason) }
query_received_as tags None i now q =
    AppendsLine kinds.Query q.time (written_query i.config q.time q.id) (record {
      agent = query_entered q.time q.id i;
      answer = Ok (outcomes.Query (handed_if_passed tags i.config now q) (ack_if_passed tags i.config.name q) (not (has_flag no_broadcast_flag q.flags)));
    }) (Err SinkError)

abbrev pub receive_query : Bool → IdealAgent → ℕ → Query → Call (Result Outcome ReceiveError)
receive_query tags i now q = query_received_as tags (query_admission i q.time q.id) i now q

-- A query that is fired

-- the flags of a query that is fired
abbrev pub flags_of : Bool → Bool → ℕ
flags_of want_ack no_broadcast = (if want_ack then ack_flag else 0) + (if no_broadcast then no_broadcast_flag else 0)

-- the query that an agent of this name fires at a time
abbrev pub query_at : ℕ → List ℕ → ℕ → List ℕ → List ℕ → QueryParams → Query
query_at t node id name payload params =
    record {
      time = t;
      id = id;
      addr = params.addr;
      port = params.port;
      source = node;
      filters = params.filters;
      flags = flags_of params.want_ack params.no_broadcast;
      relay_factor = params.relay_factor;
      timeout = params.timeout;
      name = name;
      payload = payload;
    }

-- a timeout of 0 or below
abbrev pub is_no_timeout : ℤ → Bool
is_no_timeout (pos timeout) = timeout == 0
is_no_timeout (negsuc timeout) = true

-- whether the packet of a query is too large to be fired
abbrev pub is_too_large_query : Config → ℕ → ℕ → List ℕ → List ℕ → QueryParams → Bool
is_too_large_query config clock id name payload params = nat_lt config.query_limit (length (canonical (query (query_at (drawn clock) config.name id name payload params))))

-- why a query isn't fired: the first reason that applies
abbrev pub query_error : IdealAgent → ℕ → List ℕ → List ℕ → QueryParams → Option QueryError
query_error i id name payload params =
    if i.snapshot.stopped then Some errors.Stopped else
    if is_too_large_query i.config i.queries.clock id name payload params then Some errors.TooLarge else
    if is_no_timeout params.timeout then Some errors.ZeroTimeout else
    if nat_le max_clock i.queries.clock then Some errors.Exhausted else None

-- an open query that accepts answers from now on, and has none yet
abbrev pub opened_query : ℕ → Query → OpenQuery
opened_query now q = record { id = q.id; deadline = deadline_of now q.timeout; wants_ack = has_flag ack_flag q.flags; acks = []; responses = [] }

-- the agent after a query that it fired has entered and is open
abbrev pub query_opened : ℕ → Query → IdealAgent → IdealAgent
query_opened now q i = with_fired_queries (i.fired_queries ++ (q.time, opened_query now q) ∷ []) (query_entered q.time q.id i)

-- the result of firing a query, given the host's verdict on its tag filters
abbrev pub fired_query : Bool → Config → ℕ → Query → FiredQuery
fired_query tags config now q = record { time = q.time; packet = canonical (query q); handed = handed_if_passed tags config now q; ack = ack_if_passed tags config.name q }

abbrev pub asks : Bool → IdealAgent → ℕ → Query → Call (Result FiredQuery QueryError)
asks tags i now q =
    AppendsLine kinds.Query q.time (written_query i.config q.time q.id) (record {
      agent = query_opened now q i;
      answer = Ok (fired_query tags i.config now q);
    }) (Err errors.SinkError)

abbrev pub query_fired_as : Bool → Option QueryError → IdealAgent → ℕ → Query → Call (Result FiredQuery QueryError)
query_fired_as tags (Some error) i now q = answers i (Err error)
query_fired_as tags None i now q = asks tags i now q

abbrev pub fire_query : IdealAgent → ℕ → ℕ → List ℕ → List ℕ → QueryParams → Call (Result FiredQuery QueryError)
fire_query i now id name payload params =
    query_fired_as params.tags_pass (query_error i id name payload params) i now (query_at i.queries.clock i.config.name id name payload params)

-- Responses and acks

-- the open query of a time
abbrev pub fired_query_at : ℕ → List (ℕ × OpenQuery) → Option OpenQuery
fired_query_at t fired_queries = lookup (nat_eq t) fired_queries

-- the open queries, with another query in place of the one of a time
abbrev pub with_fired_query_at : ℕ → OpenQuery → List (ℕ × OpenQuery) → List (ℕ × OpenQuery)
with_fired_query_at t q fired_queries = set_value (nat_eq t) fired_queries q

abbrev pub is_ack : QueryResponse → Bool
is_ack r = has_flag ack_flag r.flags

abbrev pub has_acked : OpenQuery → List ℕ → Bool
has_acked q name = list_any (λ a. bytes_eq a name) q.acks

abbrev pub has_responded : OpenQuery → List ℕ → Bool
has_responded q name = list_any (λ a. bytes_eq a.from name) q.responses

-- why an ack, or a response, of a node is ignored
abbrev pub ack_ignore_reason : List ℕ → OpenQuery → Option Reason
ack_ignore_reason from q = if not q.wants_ack then Some AckNotRequested else if has_acked q from then Some AckTwice else None

abbrev pub response_ignore_reason : List ℕ → OpenQuery → Option Reason
response_ignore_reason from q = if has_responded q from then Some ResponseTwice else None

-- why an ack or response to an open query is ignored: the first reason that applies
abbrev pub answer_ignore_reason : ℕ → QueryResponse → OpenQuery → Option Reason
answer_ignore_reason now r q =
    if not (q.id == r.id) then Some OtherId else
    if nat_lt q.deadline now then Some Closed else
    if is_ack r then ack_ignore_reason r.from q else response_ignore_reason r.from q

-- whether the limit of the settings for counted names is reached
abbrev pub is_full : ℕ → QueryResponse → OpenQuery → Bool
is_full responders r q = if is_ack r then nat_le responders (length q.acks) else nat_le responders (length q.responses)

-- the open query after an ack or a response is counted
abbrev pub counted : QueryResponse → OpenQuery → OpenQuery
counted r q =
    if is_ack r then record { id = q.id; deadline = q.deadline; wants_ack = q.wants_ack; acks = q.acks ++ r.from ∷ []; responses = q.responses }
    else record { id = q.id; deadline = q.deadline; wants_ack = q.wants_ack; acks = q.acks; responses = q.responses ++ record { from = r.from; payload = r.payload } ∷ [] }

-- what is returned after an ack, or else a response, is counted
abbrev pub counted_as : Bool → Outcome
counted_as ack = if ack then outcomes.Ack else outcomes.Response

-- the call that counts an answer, given whether the limit is reached, and whether the answer is an ack
abbrev pub counts_where : Bool → Bool → IdealAgent → QueryResponse → OpenQuery → Call (Result Outcome ReceiveError)
counts_where full ack i r q =
    if full then answers i (Err RespondersFull) else
    Ends record { agent = with_fired_queries (with_fired_query_at r.time (counted r q) i.fired_queries) i; answer = Ok (counted_as ack) }

abbrev pub counts : IdealAgent → QueryResponse → OpenQuery → Call (Result Outcome ReceiveError)
counts i r q = counts_where (is_full i.config.responders r q) (is_ack r) i r q

abbrev pub response_received_as : Option Reason → IdealAgent → QueryResponse → OpenQuery → Call (Result Outcome ReceiveError)
response_received_as (Some reason) i r q = answers i (Ok (outcomes.Ignored reason))
response_received_as None i r q = counts i r q

abbrev pub response_received_at : Option OpenQuery → IdealAgent → ℕ → QueryResponse → Call (Result Outcome ReceiveError)
response_received_at None i now r = answers i (Ok (outcomes.Ignored NotOpen))
response_received_at (Some q) i now r = response_received_as (answer_ignore_reason now r q) i r q

abbrev pub receive_response : IdealAgent → ℕ → QueryResponse → Call (Result Outcome ReceiveError)
receive_response i now r = response_received_at (fired_query_at r.time i.fired_queries) i now r

-- Closing

abbrev pub is_due : ℕ → ℕ × OpenQuery → Bool
is_due now q = nat_lt q.1.deadline now

-- the open queries whose deadline is past are removed, and the number of them is returned
abbrev pub close_due : IdealAgent → ℕ → Step ℕ
close_due i now = record { agent = with_fired_queries (filter (λ q. not (is_due now q)) i.fired_queries) i; answer = length (filter (is_due now) i.fired_queries) }

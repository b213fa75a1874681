-- What a session does with queries.
use Rattle.std.specs.Prelude.{[], ◌∷◌, ◌++◌, ◌≡◌, ◌≢◌, ℕ, true, List, Option, Some, None, Result, Ok, Err, filter, not}
use Rattle.serf_agent.specs.DeliveredQuery.{DeliveredQuery}
use Rattle.serf_agent.specs.declared.outcome.QueryParams.{QueryParams}
use Rattle.serf_agent.specs.declared.outcome.Reply.{Reply}
use Rattle.serf_agent.specs.declared.outcome.RespondError.{RespondError}
use Rattle.serf_agent.specs.Ideal.{IdealAgent}
use Rattle.serf_agent.specs.Queries.{close_due, is_due, respond_error, response_packet}
use Rattle.serf_agent.specs.Sound.{IsSound}
use Rattle.serf_agent.specs.View.{view_of}
use Rattle.serf_agent_c.specs.declared.code.Code.{Code}
use Rattle.serf_agent_c.specs.declared.code.Code.TheVariants.{Done, OutOfMemory, NotPending}
use Rattle.serf_agent_c.specs.declared.call_result.CallResult.TheVariants.{Replied}
use Rattle.serf_agent_c.specs.declared.heads.Params.{Params}
use Rattle.serf_agent_c.specs.declared.session.Session.{Session}
use Rattle.serf_agent_c.specs.Calls.{answer_code}
use Rattle.serf_agent_c.specs.Codes.{respond_code}
use Rattle.serf_agent_c.specs.ResultParts.{closed_in, unsettled_in}
use Rattle.serf_agent_c.specs.Numbered.{Numbered, WaitsInTime, in_time, waiting_at, without}
use Rattle.serf_agent_c.specs.Reads.{GivesNothing, kind_of}
use Rattle.serf_agent_c.specs.Sessions.{Appends, KeepsBurst, KeepsFilters, KeepsMembers, Numbers, Rests, is_ready, settled}

-- how a query is fired
abbrev pub params_of : List (List ℕ) → List ℕ → Params → QueryParams
params_of filters addr p =
    record { filters = filters; want_ack = p.want_ack; no_broadcast = p.no_broadcast; tags_pass = p.tags_pass; timeout = p.timeout; addr = addr; port = p.port; relay_factor = p.relay_factor }

-- the answer to a query at a moment, or the error; and the queries that wait afterwards: without this one after a
-- success
abbrev pub replied_as : DeliveredQuery → List ℕ → Option RespondError → Result Reply RespondError
replied_as q payload (Some error) = Err error
replied_as q payload None = Ok record { addr = q.addr; port = q.port; packet = response_packet q payload }

abbrev pub reply_of : DeliveredQuery → ℕ → List ℕ → Result Reply RespondError
reply_of q now payload = replied_as q payload (respond_error q now payload)

abbrev pub left_of : ℕ → Result Reply RespondError → Numbered → Numbered
left_of number (Ok reply) n = without number n
left_of number (Err error) n = n

-- A filter is added after the others if there is memory for it, and nothing else changes.
abbrev pub AddsFilter : List ℕ → Session → Session → Code → Type 0
AddsFilter filter s t code =
    (code ≡ Done → t.filters ≡ s.filters ++ filter ∷ [])
    × (code ≢ Done → t.filters ≡ s.filters)
    × (code ≢ Done → code ≡ OutOfMemory)
    × (t.agent ≡ s.agent) × (t.call_result ≡ s.call_result) × (t.written ≡ s.written) × (t.replaces ≡ s.replaces) × (t.waiting ≡ s.waiting) × KeepsMembers s t × KeepsBurst s t

-- After a query was tried, the filters that were added for it are forgotten. If memory ran out, none was tried.
abbrev pub ForgetsFilters : Session → Session → Code → Type 0
ForgetsFilters s t code = is_ready s ≡ true → (code ≡ OutOfMemory → KeepsFilters s t) × (code ≢ OutOfMemory → t.filters ≡ []) × Appends s t × Numbers s t × KeepsMembers s t × KeepsBurst s t

-- A query that waits is answered, and a success takes it out.
abbrev pub Responds : ℕ → ℕ → List ℕ → Session → Session → Code → Type 0
Responds number now payload s t code =
    is_ready s ≡ true → code ≢ OutOfMemory → (q : DeliveredQuery) → waiting_at number (settled s).waiting ≡ Some q
    → (t.call_result ≡ Replied (reply_of q now payload)) × (code ≡ answer_code respond_code (reply_of q now payload))
    × (settled t ≡ left_of number (reply_of q now payload) (settled s))

-- If no waiting query has the number, the code is NotPending. In this case, and if memory runs out, there is no result,
-- and each query that was handed out keeps its number.
abbrev pub Declines : ℕ → Session → Session → Code → Type 0
Declines number s t code =
    is_ready s ≡ true
    → (waiting_at number (settled s).waiting ≡ None → code ≢ OutOfMemory → code ≡ NotPending)
    × (code ≡ NotPending → Rests s t)
    × (code ≡ OutOfMemory → Rests s t)
    × Appends s t × KeepsFilters s t × KeepsMembers s t × KeepsBurst s t

-- A query that waits is forgotten. The others keep waiting with their numbers, and there is no result.
abbrev pub Forgets : ℕ → Session → Session → Code → Type 0
Forgets number s t code =
    is_ready s ≡ true → code ≢ OutOfMemory → (q : DeliveredQuery) → waiting_at number (settled s).waiting ≡ Some q
    → (code ≡ Done) × GivesNothing t.call_result × (settled t ≡ without number (settled s))

-- If the latest query that was handed out is already among those that wait, memory doesn't run out.
abbrev pub IsSpared : Session → Code → Type 0
IsSpared s code = is_ready s ≡ true → unsettled_in s.call_result ≡ None → code ≢ OutOfMemory

-- The queries that were handed out and whose deadline has passed are forgotten, unless memory runs out. The others keep
-- waiting with their numbers.
abbrev pub ForgetsLate : ℕ → Session → Session → Code → Type 0
ForgetsLate now s t code =
    is_ready s ≡ true
    → (code ≢ OutOfMemory → settled t ≡ in_time now (settled s)) × Appends s t × KeepsFilters s t × KeepsMembers s t × KeepsBurst s t

-- So whatever waits afterwards can still be answered at that moment, and each number appears once.
abbrev pub IsBounded : ℕ → Session → Code → Type 0
IsBounded now t code = code ≡ Done → WaitsInTime now (settled t)

-- The open queries whose deadline has passed are closed, as the ideal agent does it, and the sink isn't called. The
-- result is exactly these queries as they were, in order, with the answers that were counted.
abbrev pub Closes : ℕ → ℕ → Session → Session → Code → Type 0
Closes now closed s t code =
    is_ready s ≡ true → code ≢ OutOfMemory
    → (code ≡ Done) × (t.agent.device ≡ s.agent.device)
    × (closed_in t.call_result ≡ filter (is_due now) s.agent.concrete.fired_queries) × (kind_of t.call_result ≡ 13)
    × (t.agent.concrete.fired_queries ≡ filter (λ q. not (is_due now q)) s.agent.concrete.fired_queries)
    × ((i : IdealAgent) → IsSound i → s.agent.concrete ≡ view_of i
    → (closed ≡ (close_due i now).answer) × (t.agent.concrete ≡ view_of (close_due i now).agent) × IsSound (close_due i now).agent)

-- If each query that was handed out is among those that wait, and no open query is due, memory doesn't run out.
abbrev pub Spares : ℕ → Session → Code → Type 0
Spares now s code = is_ready s ≡ true → unsettled_in s.call_result ≡ None → filter (is_due now) s.agent.concrete.fired_queries ≡ [] → code ≢ OutOfMemory

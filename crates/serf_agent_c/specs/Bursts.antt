-- What a burst does: calls made one after another, each a step of the agent. Their outcomes wait in a list until the
-- host's file has the lines of all of them.
use Rattle.std.specs.Prelude.{◌≡◌, ◌≢◌, ◌++◌, ◌∷◌, [], ℕ, Bool, false, true, if◌then◌else◌, IsSomeAnd, length, List, min, nat_le, None, Some}
use Rattle.serf_snapshot.specs.Clocks.{clock_line}
use Rattle.serf_snapshot.specs.Device.{Device, FailurePlan, Observable}
use Rattle.serf_snapshot.specs.KeptAppends.{kept_bytes}
use Rattle.serf_snapshot.specs.AppendsLine.{Kept, last_line}
use Rattle.serf_window.specs.Texts.{event_of}
use Rattle.serf_agent.specs.declared.outcome.QueryParams.{QueryParams}
use Rattle.serf_agent.specs.Calls.{Call, Ends, AppendsLine, Replaces, ended}
use Rattle.serf_agent.specs.Events.{fire}
use Rattle.serf_agent.specs.Ideal.{IdealAgent}
use Rattle.serf_agent.specs.Queries.{fire_query}
use Rattle.serf_agent.specs.Receive.{receive}
use Rattle.serf_agent.specs.Sound.{IsSound}
use Rattle.serf_agent.specs.View.{view_of}
use Rattle.serf_agent_c.specs.declared.burst_outcome.BurstOutcome.{BurstOutcome}
use Rattle.serf_agent_c.specs.declared.burst_outcome.BurstOutcome.TheVariants.{Received, Fired, QueryFired}
use Rattle.serf_agent_c.specs.declared.code.Code.{Code}
use Rattle.serf_agent_c.specs.declared.code.Code.TheVariants.{Done, Nothing, OutOfMemory}
use Rattle.serf_agent_c.specs.declared.call_result.CallResult.{CallResult}
use Rattle.serf_agent_c.specs.declared.call_result.CallResult.TheVariants as call_results
use Rattle.serf_agent_c.specs.declared.session.Session.{Session}
use Rattle.serf_agent_c.specs.Calls.{answer_code}
use Rattle.serf_agent_c.specs.Codes.{fire_code, number_of, query_code, receive_code}
use Rattle.serf_agent_c.specs.Reads.{GivesNothing}
use Rattle.serf_agent_c.specs.Sessions.{KeepsBurst, KeepsFilters, KeepsMembers, Rests, is_ready}
use Rattle.serf_agent_c.specs.Texts.{pending_bytes, text_of}

-- An outcome

-- the call's code and its result, the same as of a call outside a burst
abbrev pub code_of : BurstOutcome → Code
code_of (Received answer) = answer_code receive_code answer
code_of (Fired answer) = answer_code fire_code answer
code_of (QueryFired answer) = answer_code query_code answer

abbrev pub call_result_of : BurstOutcome → CallResult
call_result_of (Received answer) = call_results.Received answer
call_result_of (Fired answer) = call_results.Fired answer
call_result_of (QueryFired answer) = call_results.QueryFired answer

-- The calls of a burst

-- a packet that arrives at a moment, with the host's verdict on tag filters; an event, with its name, its payload and
-- whether it coalesces; or a query, with the moment, its ID, its name, its payload and how it is fired
pub data BurstCall : Type 0 where
  Receives : Bool → ℕ → List ℕ → BurstCall
  Fires : List ℕ → List ℕ → Bool → BurstCall
  Asks : ℕ → ℕ → List ℕ → List ℕ → QueryParams → BurstCall

-- what an ideal agent becomes by a call whose line is durable, how it answers, and the line; there is no line if the
-- last line of its kind has this time or a later one
pub record Outcome : Type 0 where
  pub agent : IdealAgent
  pub answer : BurstOutcome
  pub line : List ℕ

abbrev pub line_of : {R : Type 0} → IdealAgent → Call R → List ℕ
line_of i (Ends step) = []
line_of i (AppendsLine kind t None step error) = if nat_le t (last_line kind i.snapshot) then [] else clock_line kind t
line_of i (AppendsLine kind t (Some line) step error) = kept_bytes kind t line (last_line kind i.snapshot)
line_of i (Replaces lines step error) = []

abbrev pub outcome : {R : Type 0} → (R → BurstOutcome) → IdealAgent → Call R → Outcome
outcome burst_outcome i call = record { agent = (ended i call Kept).agent; answer = burst_outcome (ended i call Kept).answer; line = line_of i call }

abbrev pub outcome_of : IdealAgent → BurstCall → Outcome
outcome_of i (Receives tags now packet) = outcome (λ r. Received r) i (receive tags i now packet)
outcome_of i (Fires name payload coalesce) = outcome (λ r. Fired r) i (fire i (event_of name payload) coalesce)
outcome_of i (Asks now id name payload params) = outcome (λ r. QueryFired r) i (fire_query i now id name payload params)

-- the agent after some calls in order, their answers, and their lines
abbrev pub after : IdealAgent → List BurstCall → IdealAgent
after i [] = i
after i (call ∷ calls) = after (outcome_of i call).agent calls

abbrev pub answers_of : IdealAgent → List BurstCall → List BurstOutcome
answers_of i [] = []
answers_of i (call ∷ calls) = (outcome_of i call).answer ∷ answers_of (outcome_of i call).agent calls

abbrev pub lines_of : IdealAgent → List BurstCall → List ℕ
lines_of i [] = []
lines_of i (call ∷ calls) = (outcome_of i call).line ++ lines_of (outcome_of i call).agent calls

-- the plan of a sink that never fails, which a session's sink has from its opening on
abbrev pub no_failure : FailurePlan
no_failure = record { appends = 0; flushes = 0; replaces = 0; keeps_new = false }

-- the sink shows its bytes, and none of them is only buffered
abbrev pub IsFlushed : Device → Type 0
IsFlushed d = IsSomeAnd d.observed_bytes (λ (bytes : Observable). bytes.buffered ≡ [])

-- A burst of these calls took one session to another, with a sound agent that is stored in the second one. The outcomes
-- of the calls, in order, wait after those that waited before, and the lines of the calls, in order, are pending after
-- the bytes that were pending before.
pub record Bursts (i : IdealAgent) (calls : List BurstCall) (s t : Session) : Type 0 where
  pub state : t.agent.concrete ≡ view_of (after i calls)
  pub sound : IsSound (after i calls)
  pub calm : (after i calls).snapshot.plan ≡ Some no_failure
  pub flushed : IsFlushed t.agent.device
  pub outcomes : t.burst.items ≡ s.burst.items ++ answers_of i calls
  pub lines : pending_bytes t.agent.device t.written ≡ pending_bytes s.agent.device s.written ++ lines_of i calls

-- One more call

-- What a call of a burst leaves unchanged, whatever its code: the result of the last call, the queries that were handed
-- out, and what was named for the next state. Of the text, at most what was there before counts as written.
abbrev pub Stands : Session → Session → Type 0
Stands s t =
    (t.call_result ≡ s.call_result) × (t.waiting ≡ s.waiting) × KeepsMembers s t
    × (t.replaces ≡ s.replaces) × (t.written ≡ min s.written (length (text_of s.agent.device)))

-- If memory ran out, nothing was done: the agent is as before, and the outcomes before this call wait.
abbrev pub Leaves : Session → Session → Code → Type 0
Leaves s t code = code ≡ OutOfMemory → (t.agent ≡ s.agent) × KeepsBurst s t × KeepsFilters s t

-- Otherwise its outcome, which is of the call's kind, waits after the others, and has its code.
abbrev pub Queues : {R : Type 0} → (R → BurstOutcome) → Session → Session → Code → Type 0
Queues {R} burst_outcome s t code = code ≢ OutOfMemory → (r : R) × (t.burst.items ≡ s.burst.items ++ burst_outcome r ∷ []) × (code ≡ code_of (burst_outcome r))

-- Any burst that led to the session before the call also leads to the session after it, with this call as its last one.
-- The burst without calls leads from any session to itself.
abbrev pub Extends : BurstCall → Session → Session → Code → Type 0
Extends call s t code = code ≢ OutOfMemory → (i : IdealAgent) (calls : List BurstCall) (a : Session) → Bursts i calls a s → Bursts i (calls ++ call ∷ []) a t

-- After a query was tried, its filters are forgotten. Other calls keep them.
abbrev pub SpendsFilters : Session → Session → Code → Type 0
SpendsFilters s t code = code ≢ OutOfMemory → t.filters ≡ []

-- Reading

-- The first of the waiting outcomes becomes the result, with its code, and no longer waits. If none waits, there is no
-- result.
abbrev pub Follows : List BurstOutcome → Session → Code → ℕ → ℕ → Type 0
Follows [] t code old new = (code ≡ Nothing) × GivesNothing t.call_result × (t.burst.items ≡ []) × (new ≡ old)
Follows (x ∷ xs) t code old new = (code ≡ Done) × (t.call_result ≡ call_result_of x) × (t.burst.items ≡ xs) × (new ≡ number_of (code_of x))

abbrev pub GoesToNext : ℕ → ℕ → Session → Session → Code → Type 0
GoesToNext old new s t code =
    is_ready s ≡ true
    → (code ≡ OutOfMemory → Rests s t × KeepsBurst s t × (new ≡ old))
    × (code ≢ OutOfMemory → Follows s.burst.items t code old new)

-- Reading doesn't change the agent, the filters or the members.
abbrev pub LeavesAgent : Session → Session → Type 0
LeavesAgent s t = (t.agent ≡ s.agent) × KeepsFilters s t × KeepsMembers s t

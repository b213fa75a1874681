-- What each call of a session does: the step of the ideal agent, and the result for C to read.
use Rattle.std.specs.Prelude.{◌≡◌, ◌≢◌, true, false, Result, Ok, Err}
use Rattle.serf_agent.specs.Ideal.{IdealAgent}
use Rattle.serf_agent.specs.Calls.{Call}
use Rattle.serf_agent.specs.Sound.{IsSound}
use Rattle.serf_agent.specs.Steps.{Steps}
use Rattle.serf_agent.specs.View.{view_of}
use Rattle.serf_agent_c.specs.declared.code.Code.{Code}
use Rattle.serf_agent_c.specs.declared.code.Code.TheVariants.{Done, Pending, OutOfMemory}
use Rattle.serf_agent_c.specs.declared.call_result.CallResult.{CallResult}
use Rattle.serf_agent_c.specs.declared.session.Session.{Session}
use Rattle.serf_agent_c.specs.Sessions.{Rests, Settles, is_ready}

-- the code of an answer, by the code of its error
abbrev pub answer_code : {R E : Type 0} → (E → Code) → Result R E → Code
answer_code error_code (Ok x) = Done
answer_code error_code (Err e) = error_code e

-- While bytes are pending, no call is made, and nothing changes.
abbrev pub Waits : Session → Session → Code → Type 0
Waits s t code = is_ready s ≡ false → (code ≡ Pending) × (t ≡ s)

-- Otherwise the result of the call before is settled, whatever the code.
abbrev pub Tells : Session → Session → Type 0
Tells s t = is_ready s ≡ true → Settles s t

-- If memory ran out, the agent is as before, and there is no result.
abbrev pub Forgoes : Session → Session → Code → Type 0
Forgoes s t code = code ≡ OutOfMemory → (t.agent ≡ s.agent) × Rests s t

-- If it didn't, the agent's answer is the result, and determines the code,
abbrev pub Gives : {R E : Type 0} → (Result R E → CallResult) → (E → Code) → Session → Session → Code → Type 0
Gives {R} {E} call_result error_code s t code = is_ready s ≡ true → code ≢ OutOfMemory → (r : Result R E) × (t.call_result ≡ call_result r) × (code ≡ answer_code error_code r)

-- and a sound agent took the step that the ideal agent takes.
abbrev pub Takes : {R E : Type 0} → (Result R E → CallResult) → (IdealAgent → Call (Result R E)) → Session → Session → Code → Type 0
Takes {R} {E} call_result call s t code =
    is_ready s ≡ true → code ≢ OutOfMemory → (r : Result R E) → t.call_result ≡ call_result r
    → (i : IdealAgent) → IsSound i → s.agent.concrete ≡ view_of i → Steps i (call i) r s.agent.device t.agent

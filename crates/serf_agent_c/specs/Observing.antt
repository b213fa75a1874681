-- What a session does with a time of the member clock that its host passes in.
use Rattle.std.specs.Prelude.{◌≡◌, ◌+◌, ◌<◌, ℕ, true, false}
use Rattle.serf_lamport.specs.Clock.{max_clock}
use Rattle.serf_agent.specs.Ideal.{IdealAgent}
use Rattle.serf_agent.specs.MemberClock.{clock_state, with_observed_member}
use Rattle.serf_agent.specs.Sound.{IsSound}
use Rattle.serf_agent.specs.States.{joined}
use Rattle.serf_agent.specs.View.{view_of}
use Rattle.serf_agent_c.specs.declared.code.Code.{Code}
use Rattle.serf_agent_c.specs.declared.code.Code.TheVariants.{Done, Exhausted}
use Rattle.serf_agent_c.specs.declared.session.Session.{Session}
use Rattle.serf_agent_c.specs.Sessions.{KeepsBurst, KeepsFilters, KeepsMembers, is_ready}

-- Only the agent of a session changes, and the sink isn't called.
abbrev pub KeepsRest : Session → Session → Code → Type 0
KeepsRest s t code =
    is_ready s ≡ true → (t.call_result ≡ s.call_result) × (t.written ≡ s.written) × (t.replaces ≡ s.replaces) × (t.waiting ≡ s.waiting)
    × KeepsFilters s t × KeepsMembers s t × KeepsBurst s t × (t.agent.device ≡ s.agent.device)

-- 2^64 - 1 is not a valid time, and changes nothing.
abbrev pub IsNoTime : ℕ → Session → Session → Code → Type 0
IsNoTime time s t code = is_ready s ≡ true → time ≡ max_clock → (code ≡ Exhausted) × (t.agent ≡ s.agent)

-- Otherwise the member clock is later than the time from then on,
abbrev pub Observes : ℕ → Session → Session → Code → Type 0
Observes time s t code = is_ready s ≡ true → time < max_clock → (code ≡ Done) × (t.agent.concrete ≡ with_observed_member time s.agent.concrete)

-- just as if a push/pull contained this clock and nothing else.
abbrev pub Hears : ℕ → Session → Session → Code → Type 0
Hears time s t code =
    is_ready s ≡ true → time < max_clock → (i : IdealAgent) → IsSound i → s.agent.concrete ≡ view_of i
    → (t.agent.concrete ≡ view_of (joined (clock_state (time + 1)) false i)) × IsSound (joined (clock_state (time + 1)) false i)

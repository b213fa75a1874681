-- The members that a state names.
use Rattle.std.specs.Prelude.{◌≡◌, ◌≢◌, ◌++◌, ◌∷◌, ℕ, true, List, []}
use Rattle.serf_agent_c.specs.declared.code.Code.{Code}
use Rattle.serf_agent_c.specs.declared.code.Code.TheVariants.{Done, OutOfMemory}
use Rattle.serf_agent_c.specs.declared.members.Member.{Member}
use Rattle.serf_agent_c.specs.declared.session.Session.{Session}
use Rattle.serf_agent_c.specs.Sessions.{KeepsBurst, is_ready}

-- a member's name with its status time, as in a state
abbrev pub named : Member → List ℕ × ℕ
named m = (m.name, m.time)

-- A member with its status time is added after the others if there is memory for it, and nothing else changes.
abbrev pub AddsStatus : List ℕ → ℕ → Session → Session → Code → Type 0
AddsStatus name time s t code =
    (code ≡ Done → t.status.items ≡ s.status.items ++ record { name = name; time = time } ∷ [])
    × (code ≢ Done → t.status.items ≡ s.status.items)
    × (is_ready s ≡ true → code ≢ Done → code ≡ OutOfMemory)
    × (t.agent ≡ s.agent) × (t.call_result ≡ s.call_result) × (t.written ≡ s.written) × (t.replaces ≡ s.replaces) × (t.waiting ≡ s.waiting) × (t.filters ≡ s.filters) × (t.left ≡ s.left) × KeepsBurst s t

-- The same holds for a member that left.
abbrev pub AddsLeft : List ℕ → Session → Session → Code → Type 0
AddsLeft name s t code =
    (code ≡ Done → t.left ≡ s.left ++ name ∷ [])
    × (code ≢ Done → t.left ≡ s.left)
    × (is_ready s ≡ true → code ≢ Done → code ≡ OutOfMemory)
    × (t.agent ≡ s.agent) × (t.call_result ≡ s.call_result) × (t.written ≡ s.written) × (t.replaces ≡ s.replaces) × (t.waiting ≡ s.waiting) × (t.filters ≡ s.filters) × (t.status ≡ s.status) × KeepsBurst s t

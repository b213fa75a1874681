-- Agents that are compared one after another.
use Rattle.std.specs.Prelude.{◌≡◌, ℕ, ◌+◌, ◌-◌, ◌^◌, ◌++◌, Bool, true, false, min, List, [], ◌∷◌, Option, Some, None}
use Rattle.std.specs.Io.KnownBytes.{Appends}
use Rattle.serf_agent.specs.declared.config.Config.{Config}
use Rattle.serf_model.specs.Trace.{Turn}
use Rattle.serf_schedule.specs.Line.{Parsed}
use Rattle.serf_conform.specs.declared.verdict.End.{End}
use Rattle.serf_conform.specs.declared.verdict.End.TheVariants as ends
use Rattle.serf_conform.specs.Session.{IsLeft, Session, session}
use Rattle.serf_conform.specs.declared.verdict.Verdict.{Verdict}
use Rattle.serf_conform.specs.declared.sweep.Counts.{Counts}
use Rattle.serf_conform.specs.declared.sweep.Held.{Held}
use Rattle.serf_conform.specs.declared.sweep.Other.{Other}
use Rattle.serf_conform.specs.Case.{turns_in}

-- a sum, or the maximum of 64 bits if the sum is larger
abbrev pub tally : ℕ → ℕ → ℕ
tally a b = min (a + b) (2 ^ 64 - 1)

-- the sums over no agent, with one more verdict, and of two groups of agents
abbrev pub no_counts : Counts
no_counts = record { agents = 0; calls = 0; openings = 0; unsupported_agents = 0; unsupported_dumps = 0 }

-- 1 if the comparison ended at a call that is unsupported, and otherwise 0
abbrev pub ends_unsupported : End → ℕ
ends_unsupported ends.AllAgree = 0
ends_unsupported ends.OwnRule = 0
ends_unsupported ends.Unsupported = 1
ends_unsupported (ends.Differs text) = 0
ends_unsupported ends.Ended = 0

abbrev pub with_verdict : Counts → Verdict → Counts
with_verdict n v =
    record {
      agents = tally n.agents 1;
      calls = tally n.calls v.calls;
      openings = tally n.openings (min v.calls 1);
      unsupported_agents = tally n.unsupported_agents (ends_unsupported v.end);
      unsupported_dumps = tally n.unsupported_dumps v.unsupported_dumps;
    }

abbrev pub sum_of : Counts → Counts → Counts
sum_of n m =
    record {
      agents = tally n.agents m.agents;
      calls = tally n.calls m.calls;
      openings = tally n.openings m.openings;
      unsupported_agents = tally n.unsupported_agents m.unsupported_agents;
      unsupported_dumps = tally n.unsupported_dumps m.unsupported_dumps;
    }

-- An agent replied differently, or has ended.
abbrev pub is_differing : End → Bool
is_differing ends.AllAgree = false
is_differing ends.OwnRule = false
is_differing ends.Unsupported = false
is_differing (ends.Differs text) = true
is_differing ends.Ended = true

-- the verdicts on the agents, what was written, and what they write after that
pub record Sweep : Type 0 where
  pub held : Held
  pub written : List ℕ
  pub rest : List ℕ

-- If agent a differs in its session, the sweep ends there. Otherwise it continues.
abbrev pub after_session : Bool → ℕ → Counts → List ℕ → Session → (Counts → List ℕ → List ℕ → Sweep) → Sweep
after_session true a counts written s next =
    record { held = record { counts = with_verdict counts s.verdict; other = Some (record { agent = a; verdict = s.verdict }) }; written = written ++ s.written; rest = s.rest }
after_session false a counts written s next = next (with_verdict counts s.verdict) (written ++ s.written) s.rest

-- the agents that are left, from number a on
abbrev pub sweep_from : Bool → List Turn → ℕ → Counts → List ℕ → List Config → List ℕ → Sweep
sweep_from serf turns a counts written [] input = record { held = record { counts = counts; other = None }; written = written; rest = input }
sweep_from serf turns a counts written (config ∷ configs) input =
    let s = session serf a config turns input in
    after_session (is_differing s.verdict.end) a counts written s (λ c w rest. sweep_from serf turns (a + 1) c w configs rest)

-- All agents of a schedule in order, up to the first that differs. Each is opened again and compared by itself.
abbrev pub sweep : Bool → Parsed → List ℕ → Sweep
sweep serf p input = sweep_from serf (turns_in p) 0 no_counts [] p.configs input

-- If no agent has ended, the reader has the rest left.
abbrev pub IsLeftAfter : Option Other → Option (List ℕ) → List ℕ → Type 0
IsLeftAfter None new rest = new ≡ Some rest
IsLeftAfter (Some other) new rest = IsLeft other.verdict.end new rest

-- the verdicts on the agents, what was written, and what the reader has left
pub record Sweeps (s : Sweep) (held : Held) (new from to : Option (List ℕ)) : Type 0 where
  pub held_is : held ≡ s.held
  pub written : Appends from to s.written
  pub left : IsLeftAfter held.other new s.rest

-- Partway through a sweep, what is left of the input leads to the same result as the whole input.
abbrev pub IsSweeping : Option (List ℕ) → Option (List ℕ) → Option (List ℕ) → Option (List ℕ) → (List ℕ → Sweep) → (List ℕ → List ℕ → Sweep) → Type 0
IsSweeping None now from to whole rest_of = Unit {0}
IsSweeping (Some input) None from to whole rest_of = ⊥
IsSweeping (Some input) (Some rest) from to whole rest_of = (w : List ℕ) × Appends from to w × (rest_of w rest ≡ whole input)

-- Schedules from seeds, one after another.
use Rattle.std.specs.Prelude.{◌≡◌, ℕ, ◌+◌, ◌++◌, Bool, zero, suc, List, Option, Some, None}
use Rattle.std.specs.Io.KnownBytes.{Appends}
use Rattle.serf_schedule.specs.Line.{Parsed}
use Rattle.serf_conform.specs.declared.sweep.Counts.{Counts}
use Rattle.serf_conform.specs.declared.sweep.Held.{Held}
use Rattle.serf_conform.specs.declared.sweep.Other.{Other}
use Rattle.serf_conform.specs.declared.seeds.Hunted.{Hunted}
use Rattle.serf_conform.specs.Sweep.{Sweep, Sweeps, sum_of, sweep}

-- what was found, and what was written for it
pub record Hunt : Type 0 where
  pub hunted : Hunted
  pub written : List ℕ

-- An agent that differs ends the hunt. Otherwise the hunt continues with what the agents under test write next.
abbrev pub AfterSweep : Option Other → ℕ → Counts → List ℕ → Sweep → (Counts → List ℕ → List ℕ → Hunt → Type 0) → Hunt → Type 0
AfterSweep None seed counts written s Next h = Next (sum_of counts s.held.counts) (written ++ s.written) s.rest h
AfterSweep (Some other) seed counts written s Next h =
    h ≡ record { hunted = record { counts = sum_of counts s.held.counts; found = Some (record { seed = seed; other = other }) }; written = written ++ s.written }

-- A hunt over n seeds, beginning with this one. A schedule is made from each seed, and its agents are compared.
abbrev pub Hunts : (ℕ → Parsed → Type 0) → Bool → ℕ → ℕ → Counts → List ℕ → List ℕ → Hunt → Type 0
Hunts makes serf zero seed counts written input h = h ≡ record { hunted = record { counts = counts; found = None }; written = written }
Hunts makes serf (suc n) seed counts written input h =
    (p : Parsed) × makes seed p × AfterSweep (sweep serf p input).held.other seed counts written (sweep serf p input)
    (λ c w rest k. Hunts makes serf n (seed + 1) c w rest k) h

-- A hunt of this kind found this and wrote what was written.
pub record IsHunt (H : Hunt → Type 0) (hunted : Hunted) (from to : Option (List ℕ)) : Type 0 where
  pub hunt : Hunt
  pub is : H hunt
  pub hunted_is : hunted ≡ hunt.hunted
  pub written : Appends from to hunt.written

-- Partway through a hunt, what follows the seeds so far completes a hunt over all seeds.
abbrev pub IsHunting : Option (List ℕ) → Option (List ℕ) → Option (List ℕ) → Option (List ℕ) → (List ℕ → Hunt → Type 0) → (List ℕ → List ℕ → Hunt → Type 0) → Type 0
IsHunting None now from to Whole Rest = Unit {0}
IsHunting (Some input) None from to Whole Rest = ⊥
IsHunting (Some input) (Some left) from to Whole Rest = (w : List ℕ) × Appends from to w × ((h : Hunt) → Rest w left h → Whole input h)

-- A schedule was made from a seed, and its agents were compared.
pub record HoldsSeed (Is : Parsed → Type 0) (serf : Bool) (input : List ℕ) (held : Held) (new from to : Option (List ℕ)) : Type 0 where
  pub schedule : Parsed
  pub made : Is schedule
  pub sweeps : Sweeps (sweep serf schedule input) held new from to

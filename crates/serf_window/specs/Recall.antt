-- A window that is filled again after a restart, from the entries that were kept. This is this project's own: Serf's
-- buffers are empty after a restart.
use Rattle.std.specs.Prelude.{AllPairs, ◌≡◌, ◌≢◌, ℕ, ◌+◌, ◌<◌, ◌≤◌, ◌⊎◌, max, Bool, true, List, [], ◌∷◌, ◌++◌, map, Contains}
use Rattle.std.specs.List.{All}
use Rattle.serf_window.specs.declared.recall.Offer.{Offer}
use Rattle.serf_window.specs.declared.verdict.Verdict.{Verdict}
use Rattle.serf_window.specs.declared.verdict.Verdict.TheVariants.{BelowMinimum, TooOld, Seen, TimeFull, New}
use Rattle.serf_window.specs.Window.{TimedEntry, verdict_of, was_entered}

-- the entries that were restored so far, in order, and the smallest time that may be accepted from then on
pub record Recalled (K : Type 0) : Type 0 where
  pub entries : List (TimedEntry K)
  pub minimum : ℕ

-- A new entry is restored. If an entry's time is full, the entry is left out, and then no time up to its own may be
-- accepted any more, because the window can't recognize an entry that was left out. All other entries are left out.
abbrev pub recalled_by : {K : Type 0} → Verdict → Recalled K → TimedEntry K → Recalled K
recalled_by New r e = record { entries = r.entries ++ e ∷ []; minimum = r.minimum }
recalled_by TimeFull r e = record { entries = r.entries; minimum = max r.minimum (e.time + 1) }
recalled_by Seen r e = r
recalled_by TooOld r e = r
recalled_by BelowMinimum r e = r

-- after one entry, by the verdict on it, if the clock has observed the times of all entries
abbrev pub recalled_one : {K : Type 0} → (K → K → Bool) → ℕ → ℕ → ℕ → Recalled K → TimedEntry K → Recalled K
recalled_one same n k clock r e = recalled_by (verdict_of same n k r.entries clock r.minimum e.time e.key) r e

-- after all of them, in order
abbrev pub recalled : {K : Type 0} → (K → K → Bool) → ℕ → ℕ → ℕ → Recalled K → List (TimedEntry K) → Recalled K
recalled same n k clock r [] = r
recalled same n k clock r (e ∷ es) = recalled same n k clock (recalled_one same n k clock r e) es

-- an entry that is offered, with its key borrowed, and all of them
abbrev pub entry_offered : {K L : Type 0} → (L → K) → Offer L → TimedEntry K
entry_offered key o = record { time = o.time; key = key o.key }

abbrev pub entries_offered : {K L : Type 0} → (L → K) → List (Offer L) → List (TimedEntry K)
entries_offered key offers = map (entry_offered key) offers

-- What stays true of an entry forever: it may not be accepted, or the same entry is among those that were restored.
abbrev pub IsRecalled : {K : Type 0} → (K → K → Bool) → ℕ → ℕ → Recalled K → TimedEntry K → Type 0
IsRecalled same n clock r e = (e.time < r.minimum) ⊎ (e.time + n < clock) ⊎ (was_entered same r.entries e.time e.key ≡ true)

pub record RecallLaws (K : Type 0) : Type 0 where
  -- this is true of each entry that was kept
  pub all_known : (same : K → K → Bool) (n k clock : ℕ) (r : Recalled K) (es : List (TimedEntry K)) → ((a : K) → same a a ≡ true) → All (IsRecalled same n clock (recalled same n k clock r es)) es
  -- an entry that was restored was kept
  pub only_kept : (same : K → K → Bool) (n k clock : ℕ) (r : Recalled K) (es : List (TimedEntry K)) → All (λ e. Contains (r.entries ++ es) e) (recalled same n k clock r es).entries
  -- the smallest acceptable time never falls
  pub minimum : (same : K → K → Bool) (n k clock : ℕ) (r : Recalled K) (es : List (TimedEntry K)) → r.minimum ≤ (recalled same n k clock r es).minimum
  -- the smallest acceptable time is no later than the clock, if all times are below the clock
  pub bounded : (same : K → K → Bool) (n k clock : ℕ) (r : Recalled K) (es : List (TimedEntry K)) → r.minimum ≤ clock → All (λ e. e.time < clock) es → (recalled same n k clock r es).minimum ≤ clock
  -- no entry is restored twice
  pub distinct : (same : K → K → Bool) (n k clock : ℕ) (r : Recalled K) (es : List (TimedEntry K)) → ((a : K) → same a a ≡ true) → AllPairs (λ x y. x ≢ y) r.entries → AllPairs (λ x y. x ≢ y) (recalled same n k clock r es).entries

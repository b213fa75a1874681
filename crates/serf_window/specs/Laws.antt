-- What is true of the slots of any entries.
use Rattle.std.specs.Prelude.{◌≡◌, ℕ, ◌+◌, ◌*◌, ◌<◌, ◌≤◌, ◌⊎◌, List, length, Contains}
use Rattle.std.specs.List.{All}
use Rattle.serf_window.specs.Window.{EachAtMost, SlotOf, TimedEntry, TimesBelow, count_in, held_at, held_count, held_of, slot_for, slots_of, time_in}

pub record SlotLaws (K : Type 0) : Type 0 where
  -- there are n slots
  pub size : (n : ℕ) (es : List (TimedEntry K)) → length (slots_of n es) ≡ n
  -- The slot of a time holds everything that has entered at that time, or the time is too old. So whatever a later
  -- time has replaced is out of the window.
  pub held_or_too_old : (n clock t : ℕ) (es : List (TimedEntry K)) → 0 < n → TimesBelow clock (slots_of n es) → (held_of (slot_for (slots_of n es) t) t ≡ held_at t es) ⊎ (t + n < clock)
  -- what a slot holds has entered at the slot's time
  pub only_entered : (n : ℕ) (es : List (TimedEntry K)) → All (λ s. All (λ what. Contains es (record { time = s.time; key = what })) s.held) (slots_of n es)
  -- if the times of all entries are below the clock, so are the times of the slots
  pub below : (n clock : ℕ) (es : List (TimedEntry K)) → 0 < clock → All (λ e. e.time < clock) es → TimesBelow clock (slots_of n es)
  -- the slot of a time that isn't below the clock holds no later time, and has a place for one more entry
  pub fresh : (k clock t : ℕ) (slots : List (SlotOf K)) → 0 < k → TimesBelow clock slots → clock ≤ t → (time_in slots t ≤ t) × (count_in slots t < k)
  -- if each slot holds at most k entries, all slots together hold at most k times their number
  pub together : (k : ℕ) (slots : List (SlotOf K)) → EachAtMost k slots → held_count slots ≤ length slots * k

-- What a buffer of recent events, or of recent queries, holds and decides. Each definition is for both: K is the key
-- that enters, which is an event's texts or a query's ID. The rules are those of Serf's `handleUserEvent` and
-- `handleQuery` (`serf.go`), which keep the buffers `eventBuffer` and `queryBuffer`; what this project adds is marked
-- as its own.
use Rattle.std.specs.Prelude.{◌≡◌, ℕ, ◌+◌, ◌%◌, ◌<◌, ◌≤◌, ◌==◌, ◌&&◌, ◌⊎◌, max, nat_lt, nat_le, Bool, if◌then◌else◌, List, [], ◌∷◌, ◌++◌, length, map, filter, slice_index, slice_index_or, slice_set, sum_by}
use Rattle.std.specs.List.{list_any, range_with_len, All}
use Rattle.serf_window.specs.declared.verdict.Verdict.{Verdict}
use Rattle.serf_window.specs.declared.verdict.Verdict.TheVariants.{BelowMinimum, TooOld, Seen, TimeFull, New}

-- An entry: a key, and the time at which it entered.
pub record TimedEntry (K : Type 0) : Type 0 where
  pub time : ℕ
  pub key : K

-- A slot: a time, and the keys that entered at this time, in order (`serf.go`, `userEvents` and `queries`). A slot
-- into which nothing has entered has the time 0.
pub record SlotOf (K : Type 0) : Type 0 where
  pub time : ℕ
  pub held : List K

-- A window: its slots, how many more entries each slot can hold before it allocates memory, and the maximum number of
-- entries of one time.
pub record WindowOf (K : Type 0) : Type 0 where
  pub slots : List (SlotOf K)
  pub rooms : List ℕ
  pub per_time : ℕ

-- the maximum number of slots of a window, and the maximum number of entries of one time (this project's own)
abbrev pub max_slot_count : ℕ
max_slot_count = 65536

abbrev pub max_per_time : ℕ
max_per_time = 65536

-- A number that isn't allowed as the number of slots, or of entries of one time, if this is the maximum.
abbrev pub IsBadSize : ℕ → ℕ → Type 0
IsBadSize maximum n = (n ≡ 0) ⊎ (maximum < n)

-- Which entries the slots hold

-- the largest time of these entries, and 0 if there are none
abbrev pub largest_time : {K : Type 0} → List (TimedEntry K) → ℕ
largest_time [] = 0
largest_time (e ∷ es) = max e.time (largest_time es)

-- what entered at a time, in order
abbrev pub held_at : {K : Type 0} → ℕ → List (TimedEntry K) → List K
held_at t es = map (λ e. e.key) (filter (λ e. e.time == t) es)

-- the entries whose time is i modulo n
abbrev pub entries_of : {K : Type 0} → ℕ → ℕ → List (TimedEntry K) → List (TimedEntry K)
entries_of n i es = filter (λ e. e.time % n == i) es

-- slot i of n slots: of the entries whose time is i modulo n, it holds those with the largest time, in order
abbrev pub slot_of : {K : Type 0} → ℕ → List (TimedEntry K) → ℕ → SlotOf K
slot_of n es i =
    let t = largest_time (entries_of n i es) in
    record { time = t; held = held_at t (entries_of n i es) }

-- the n slots of these entries
abbrev pub slots_of : {K : Type 0} → ℕ → List (TimedEntry K) → List (SlotOf K)
slots_of n es = map (slot_of n es) (range_with_len 0 n)

-- The verdict on an entry that is offered, by everything that has ever entered

-- whether this has entered at this time
abbrev pub was_entered : {K : Type 0} → (K → K → Bool) → List (TimedEntry K) → ℕ → K → Bool
was_entered same es t what = list_any (λ e. (e.time == t) && same e.key what) es

-- how many have entered at this time
abbrev pub count_at : {K : Type 0} → List (TimedEntry K) → ℕ → ℕ
count_at es t = length (held_at t es)

-- The verdict on an entry that is offered with the time t, if n is the number of slots, k is the maximum number of
-- entries of one time, and the clock has observed t. It is the first of these that is true:
-- - BelowMinimum: the time is below the minimum (Serf's `eventMinTime` and `queryMinTime`).
-- - TooOld: the clock is more than n above the time, so that another time may have taken over the slot by now.
-- - Seen: the same entry has already entered at this time.
-- - TimeFull, a rule of this project's own: k entries have entered at this time.
-- - New: none of the above.
abbrev pub verdict_of : {K : Type 0} → (K → K → Bool) → ℕ → ℕ → List (TimedEntry K) → ℕ → ℕ → ℕ → K → Verdict
verdict_of same n k es clock minimum t what =
    if nat_lt t minimum then BelowMinimum else
    if nat_lt (t + n) clock then TooOld else
    if was_entered same es t what then Seen else
    if nat_le k (count_at es t) then TimeFull else New

-- What the slots hold of a time

-- a slot into which nothing has entered
abbrev pub empty_slot : {K : Type 0} → SlotOf K
empty_slot = record { time = 0; held = [] }

-- the slot of a time: its index is the time modulo the number of slots
abbrev pub slot_for : {K : Type 0} → List (SlotOf K) → ℕ → SlotOf K
slot_for slots t = slice_index_or slots (t % length slots) empty_slot

-- the time that the slot of t holds now
abbrev pub time_in : {K : Type 0} → List (SlotOf K) → ℕ → ℕ
time_in slots t = (slot_for slots t).time

-- what a slot holds of the time t
abbrev pub held_of : {K : Type 0} → SlotOf K → ℕ → List K
held_of slot t = if slot.time == t then slot.held else []

-- how many entries of the time t the slots hold
abbrev pub count_in : {K : Type 0} → List (SlotOf K) → ℕ → ℕ
count_in slots t = length (held_of (slot_for slots t) t)

-- how many more entries of the time t can enter before the window allocates memory
abbrev pub room_for : {K : Type 0} → WindowOf K → ℕ → ℕ
room_for w t = slice_index w.rooms (t % length w.slots)

-- the slot after an entry: it keeps its other entries if they have the same time, and otherwise holds only the new one
abbrev pub slot_after : {K : Type 0} → SlotOf K → TimedEntry K → SlotOf K
slot_after slot e = record { time = e.time; held = held_of slot e.time ++ e.key ∷ [] }

-- the slots after an entry
abbrev pub slots_after : {K : Type 0} → List (SlotOf K) → TimedEntry K → List (SlotOf K)
slots_after slots e = slice_set slots (e.time % length slots) (slot_after (slot_for slots e.time) e)

-- each slot's time is below the clock
abbrev pub TimesBelow : {K : Type 0} → ℕ → List (SlotOf K) → Type 0
TimesBelow clock slots = All (λ s. s.time < clock) slots

-- each slot holds at most k entries
abbrev pub EachAtMost : {K : Type 0} → ℕ → List (SlotOf K) → Type 0
EachAtMost k slots = All (λ s. length s.held ≤ k) slots

-- how many entries the slots hold
abbrev pub held_count : {K : Type 0} → List (SlotOf K) → ℕ
held_count slots = sum_by (λ s. length s.held) slots

-- what is true of every window: it has 1 to 65,536 slots, each slot holds at most k entries, and k is from 1 to 65,536
pub record IsWindow {K : Type 0} (n k : ℕ) (slots : List (SlotOf K)) : Type 0 where
  pub some_slot : 0 < n
  pub max_slots : n ≤ max_slot_count
  pub some_of_time : 0 < k
  pub max_of_time : k ≤ max_per_time
  pub each : EachAtMost k slots

-- A window's slots in memory, as contracts see them.
use Rattle.std.specs.Prelude.{ℕ, ◌-◌, List, ◌++◌, length, replicate}
use Rattle.serf_wire.specs.declared.texts.TimeSlot.{TimeSlot}
use Rattle.serf_wire.specs.Buffers.{unused_slot}
use Rattle.serf_window.specs.Window.{SlotOf}

-- a slot and what it holds
abbrev pub slot_view : {K : Type 0} → TimeSlot K → SlotOf K
slot_view s = record { time = s.time; held = s.held.items }

-- how many more keys a slot can hold before it allocates memory
abbrev pub room_in : {K : Type 0} → TimeSlot K → ℕ
room_in s = s.held.room

-- all n slots, if these are the first of them and no other was ever used
abbrev pub all_slots : {K : Type 0} → ℕ → List (TimeSlot K) → List (TimeSlot K)
all_slots n made = made ++ replicate (n - length made) unused_slot

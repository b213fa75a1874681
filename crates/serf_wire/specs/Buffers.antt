-- The borrowed slots of a buffer.
use Rattle.std.specs.Prelude.{ℕ, List, [], ◌++◌, map, replicate}
use Rattle.serf_wire.specs.declared.borrowed_slots.BorrowedSlot.{BorrowedSlot}
use Rattle.serf_wire.specs.declared.borrowed_slots.BorrowedSlots.{BorrowedSlots}
use Rattle.serf_wire.specs.declared.texts.TimeSlot.{TimeSlot}

-- a slot that was never used
abbrev pub unused_slot : {K : Type 0} → TimeSlot K
unused_slot = record { time = 0; held = record { items = []; room = 0 } }

-- the borrowed slots: those in memory, followed by those that were never used
abbrev pub slots_borrowed : {K : Type 0} → BorrowedSlots K → List (TimeSlot K)
slots_borrowed slots = slots.used.now ++ replicate slots.unused unused_slot

-- a slot's time and what it holds, for a slot in memory and for a borrowed one
abbrev pub slot_in_memory : {K : Type 0} → TimeSlot K → ℕ × List K
slot_in_memory slot = (slot.time, slot.held.items)

abbrev pub borrowed_slot : {K : Type 0} → BorrowedSlot K → ℕ × List K
borrowed_slot slot = (slot.time, slot.held.now)

-- the slots that haven't been read yet
abbrev pub slots_to_come : {K : Type 0} → BorrowedSlots K → List (ℕ × List K)
slots_to_come slots = map slot_in_memory (slots_borrowed slots)

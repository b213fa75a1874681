-- The lines of a slot.
use Rattle.serf_text.proofs.Names.{arith, length, ℕ, ◌<◌, SlotContent, empty, held, slot_lines, with_number}

-- they have at least one byte
pub some_lines : (n : ℕ) (slot : SlotContent) → 0 < length (slot_lines n slot)
unfolding slot_lines with_number
some_lines n empty = omega arith
some_lines n (held time events) = omega arith

use Rattle.serf_conform.proofs.Names.{◌++◌, ◌≡◌, flat_map, slots_left, held_lines}
use Rattle.serf_conform.proofs.meaning.write_full_slots.Given as goal

-- the lines so far, followed by those of what is left
abbrev pub invariant-loop-slot : goal.invariant-loop-slot
invariant-loop-slot l = l.out.items ++ flat_map held_lines (slots_left l.slot-iterator) ≡ l.fn.out.items ++ flat_map held_lines (slots_left l.fn.slots)

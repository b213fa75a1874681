use Rattle.serf_text.proofs.Names.{vec_len, ◌++◌, ◌≡◌, ◌≤◌, slots_left, slots_lines}
use Rattle.serf_text.proofs.message_lines.write_slots.Given as goal

-- the lines so far, followed by those of the rest; each slot so far has at least one byte
abbrev pub invariant-loop-slot : goal.invariant-loop-slot
invariant-loop-slot l = (l.out.items ++ slots_lines l.number (slots_left l.slot-iterator) ≡ l.fn.out.items ++ slots_lines 0 (slots_left l.fn.slots))
    × (l.number ≤ vec_len l.out)

use Rattle.serf_draw.proofs.Names.{◌++◌, ◌≡◌, slots_left, slots_times}
use Rattle.serf_draw.proofs.label.times_of.Given as goal

-- the times so far, followed by those of the slots that are left
abbrev pub invariant-loop-slot : goal.invariant-loop-slot
invariant-loop-slot l = l.times.items ++ slots_times (slots_left l.slot-iterator) ≡ slots_times (slots_left l.fn.slots)

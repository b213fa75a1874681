use Rattle.serf_wire.proofs.Names.{false, take, ◌≡◌, list_any, is_long_slot, slot_content}
use Rattle.serf_wire.proofs.long.has_long_slot.Given as goal

abbrev pub invariant-loop-slot : goal.invariant-loop-slot
invariant-loop-slot l = list_any (λ s. is_long_slot (slot_content s)) (take l.slot-index l.slots) ≡ false

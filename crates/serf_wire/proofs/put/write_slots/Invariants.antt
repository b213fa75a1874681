use Rattle.serf_wire.proofs.Names.{nat_lt, take, true, ◌++◌, ◌≡◌, flat_map, list_all, slot_bytes, slot_content}
use Rattle.serf_wire.proofs.put.write_slots.Given as goal

abbrev pub invariant-loop-slot : goal.invariant-loop-slot
invariant-loop-slot l = record { bytes : l.out.items ≡ l.fn.out.items ++ flat_map (λ s. slot_bytes (slot_content s)) (take l.slot-index l.slots); times : list_all (λ s. nat_lt s.time 18446744073709551615) (take l.slot-index l.slots) ≡ true }

use Rattle.serf_wire.proofs.Names.{replicate, ◌++◌, ◌≡◌, flat_map, unused_slot, slot_bytes, slot_content}
use Rattle.serf_wire.proofs.put.write_unused.Given as goal

abbrev pub invariant-loop : goal.invariant-loop
invariant-loop l = l.out.items ≡ l.fn.out.items ++ flat_map (λ s. slot_bytes (slot_content s)) (replicate l.counter unused_slot)

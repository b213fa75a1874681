use Rattle.serf_window.proofs.Names.{replicate, vec_capacity, vec_len, ◌++◌, ◌+◌, ◌≡◌, unused_slot}
use Rattle.serf_window.proofs.growth.add_unused.Given as goal

abbrev pub invariant-loop : goal.invariant-loop
invariant-loop g l = record {
  items : l.slots.items ≡ l.fn.slots.items ++ replicate l.counter unused_slot;
  len : vec_len l.slots ≡ vec_len l.fn.slots + l.counter;
  capacity : vec_capacity l.slots ≡ vec_capacity l.fn.slots;
}

use Rattle.serf_wire.proofs.Names.{AreItems, slot}
use Rattle.serf_wire.proofs.fast.slots.skip_slots.Given as goal

abbrev pub invariant-slots : goal.invariant-slots
invariant-slots l = AreItems 6 slot l.counter l.bytes l.rest

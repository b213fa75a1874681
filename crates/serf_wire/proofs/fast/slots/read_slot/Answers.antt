use Rattle.serf_wire.proofs.Names.{refl, slot, empty}
use Rattle.serf_wire.proofs.FastLists.{nil_reads}
use Rattle.serf_wire.proofs.fast.slots.read_slot.Goals as goal

pub returns-in-Some : goal.returns-in-Some
returns-in-Some c = nil_reads 6 slot empty c.args.bytes.now c.in-Some.rest.now (λ p. refl) c.in-Some.ensures

use Rattle.serf_wire.proofs.Names.{arith}
use Rattle.serf_wire.proofs.FastReading.{after_byte}
use Rattle.serf_wire.proofs.FastSlots.{event_reads}
use Rattle.serf_wire.proofs.fast.slots.read_event.Goals as goal

pub returns : goal.returns
returns c = event_reads c.laws_below.ensures c.in_ok-name.name.now c.in_ok-payload.payload.now c.args.bytes.now _ c.in_ok-name.next.now c.in_ok-payload.rest.now (after_byte 0x82 c.args.bytes.now (omega arith) (omega arith)) c.in_ok-name.ensures c.in_ok-payload.ensures

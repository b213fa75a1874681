use Rattle.serf_wire.proofs.Names.{arith, event_body, event_of_view}
use Rattle.serf_wire.proofs.FastReading.{after_byte, fix_array}
use Rattle.serf_wire.proofs.FastPairs.{if_some}
use Rattle.serf_wire.proofs.FastLists.{only_reads}
use Rattle.serf_wire.proofs.fast.slots.read_only_event.Goals as goal

pub returns : goal.returns
returns c =
    let head = fix_array 0x91 c.args.bytes.now _ (after_byte 0x91 c.args.bytes.now (omega arith) (omega arith)) (omega arith) (omega arith) in
    if_some c.read_event.result _ _ (λ x r. only_reads c.laws_below.ensures 7 event_body c.args.bytes.now _ x.1.now (omega arith) (event_of_view x.0) head r) c.read_event.ensures

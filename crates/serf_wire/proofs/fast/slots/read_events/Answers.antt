use Rattle.serf_wire.proofs.Names.{arith, codes, raw_bytes}
use Rattle.serf_wire.proofs.FastReading.{starts}
use Rattle.serf_wire.proofs.FastPairs.{if_some}
use Rattle.serf_wire.proofs.fast.slots.read_events.Goals as goal

pub returns : goal.returns
returns c =
    let key = starts (raw_bytes (codes "Events")) c.args.bytes.now (omega arith) (omega arith, (omega arith, (omega arith, (omega arith, (omega arith, (omega arith, (omega arith, tt))))))) in
    if_some c.read_event_list.result _ _ (λ x r. record { following = _; bytes_are = key; reads = r }) c.read_event_list.ensures

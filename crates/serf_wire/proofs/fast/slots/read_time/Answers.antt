use Rattle.serf_wire.proofs.Names.{arith, codes, raw_bytes, time}
use Rattle.serf_wire.proofs.FastReading.{starts}
use Rattle.serf_wire.proofs.FastSlots.{pair_reads, time_reads}
use Rattle.serf_wire.proofs.fast.slots.read_time.Goals as goal

pub returns : goal.returns
returns c =
    let key = starts (raw_bytes (codes "LTime")) c.args.bytes.now (omega arith) (omega arith, (omega arith, (omega arith, (omega arith, (omega arith, (omega arith, tt)))))) in
    pair_reads 7 time (codes "LTime") c.in_ok-number.number c.args.bytes.now _ c.in_ok-number.rest.now key (time_reads c.in_ok-number.number _ c.in_ok-number.rest.now (omega arith) c.in_ok-number.ensures)

use Rattle.serf_wire.proofs.Names.{arith, codes, raw_bytes, text}
use Rattle.serf_wire.proofs.FastReading.{starts}
use Rattle.serf_wire.proofs.FastPairs.{if_some}
use Rattle.serf_wire.proofs.FastSlots.{pair_reads}
use Rattle.serf_wire.proofs.fast.slots.read_name.Goals as goal

pub returns : goal.returns
returns c =
    if_some c.read_text.result _ _ (λ x r. pair_reads 9 text (codes "Name") x.0.now c.args.bytes.now _ x.1.now (starts (raw_bytes (codes "Name")) c.args.bytes.now (omega arith) (omega arith, (omega arith, (omega arith, (omega arith, (omega arith, tt)))))) r) c.read_text.ensures

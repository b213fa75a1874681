use Rattle.serf_wire.proofs.Names.{arith}
use Rattle.serf_wire.proofs.FastReading.{after_byte}
use Rattle.serf_wire.proofs.FastLists.{nil_texts, no_texts}
use Rattle.serf_wire.proofs.compact.read_no_texts.Goals as goal

pub returns-in-192 : goal.returns-in-192
returns-in-192 c = nil_texts c.laws_below.ensures c.args.bytes.now _ (after_byte 192 c.args.bytes.now (omega arith) (omega arith))

pub returns-in-144 : goal.returns-in-144
returns-in-144 c = no_texts c.args.bytes.now _ (after_byte 144 c.args.bytes.now (omega arith) (omega arith))

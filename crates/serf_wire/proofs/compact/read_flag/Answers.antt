use Rattle.serf_wire.proofs.Names.{arith, false, refl, true, truth}
use Rattle.serf_wire.proofs.FastReading.{after_byte, nil_front, flag_front}
use Rattle.serf_wire.proofs.compact.read_flag.Goals as goal

pub returns-in-192 : goal.returns-in-192
returns-in-192 c = nil_front c.laws_below.ensures truth false c.args.bytes.now _ (λ p. refl) (after_byte 192 c.args.bytes.now (omega arith) (omega arith))

pub returns-in-194 : goal.returns-in-194
returns-in-194 c = flag_front c.laws_below.ensures false 194 c.args.bytes.now _ refl (after_byte 194 c.args.bytes.now (omega arith) (omega arith))

pub returns-in-195 : goal.returns-in-195
returns-in-195 c = flag_front c.laws_below.ensures true 195 c.args.bytes.now _ refl (after_byte 195 c.args.bytes.now (omega arith) (omega arith))

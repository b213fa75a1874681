use Rattle.serf_wire.proofs.Names.{arith, refl, max_clock, number}
use Rattle.serf_wire.proofs.FastReading.{after_byte, small_number, nil_front, wide_number}
use Rattle.serf_wire.proofs.compact.read_number.Goals as goal

pub returns-in-192 : goal.returns-in-192
returns-in-192 c = nil_front c.laws_below.ensures (number max_clock) 0 c.args.bytes.now _ (λ p. refl) (after_byte 0xc0 c.args.bytes.now (omega arith) (omega arith))

pub returns-in-0-to-127 : goal.returns-in-0-to-127
returns-in-0-to-127 c = small_number c.laws_below.ensures _ c.args.bytes.now _ (after_byte _ c.args.bytes.now (omega arith) refl) (omega arith)

pub returns-in-204 : goal.returns-in-204
returns-in-204 c =
    wide_number c.laws_below.ensures c.one_byte.result (λ x. x.0) (λ x. x.1.now) 204 1 256 c.args.bytes.now _ (omega arith) (after_byte 204 c.args.bytes.now (omega arith) (omega arith)) refl c.one_byte.ensures.room c.one_byte.ensures.value c.one_byte.ensures.small c.one_byte.ensures.rest

pub returns-in-205 : goal.returns-in-205
returns-in-205 c =
    wide_number c.laws_below.ensures c.two_bytes.result (λ x. x.0) (λ x. x.1.now) 205 2 65536 c.args.bytes.now _ (omega arith) (after_byte 205 c.args.bytes.now (omega arith) (omega arith)) refl c.two_bytes.ensures.room c.two_bytes.ensures.value c.two_bytes.ensures.small c.two_bytes.ensures.rest

pub returns-in-206 : goal.returns-in-206
returns-in-206 c =
    wide_number c.laws_below.ensures c.four_bytes.result (λ x. x.0) (λ x. x.1.now) 206 4 4294967296 c.args.bytes.now _ (omega arith) (after_byte 206 c.args.bytes.now (omega arith) (omega arith)) refl c.four_bytes.ensures.room c.four_bytes.ensures.value c.four_bytes.ensures.small c.four_bytes.ensures.rest

pub returns-in-207 : goal.returns-in-207
returns-in-207 c =
    wide_number c.laws_below.ensures c.eight_bytes.result (λ x. x.0) (λ x. x.1.now) 207 8 18446744073709551616 c.args.bytes.now _ (omega arith) (after_byte 207 c.args.bytes.now (omega arith) (omega arith)) refl c.eight_bytes.ensures.room c.eight_bytes.ensures.value c.eight_bytes.ensures.small c.eight_bytes.ensures.rest

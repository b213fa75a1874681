use Rattle.serf_wire.proofs.Names.{arith, refl}
use Rattle.serf_pack.specs.declared.head.Field.TheVariants as fields
use Rattle.serf_wire.proofs.FastReading.{after_byte, wide_count, fix_array}
use Rattle.serf_wire.proofs.compact.read_array_head.Goals as goal

pub returns-in-220 : goal.returns-in-220
returns-in-220 c = wide_count c.two_bytes.result (λ x. x.0) (λ x. x.1.now) 220 2 fields.Array c.args.bytes.now _ (after_byte 220 c.args.bytes.now (omega arith) (omega arith)) refl c.two_bytes.ensures.room c.two_bytes.ensures.value c.two_bytes.ensures.rest

pub returns-in-144-to-159 : goal.returns-in-144-to-159
returns-in-144-to-159 c = fix_array _ c.args.bytes.now _ (after_byte _ c.args.bytes.now (omega arith) refl) (omega arith) (omega arith)

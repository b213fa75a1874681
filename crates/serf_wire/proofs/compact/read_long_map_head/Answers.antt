use Rattle.serf_wire.proofs.Names.{arith, refl}
use Rattle.serf_pack.specs.declared.head.Field.TheVariants as fields
use Rattle.serf_wire.proofs.FastReading.{after_byte, wide_count, fix_map}
use Rattle.serf_wire.proofs.compact.read_long_map_head.Goals as goal

pub returns-in-222 : goal.returns-in-222
returns-in-222 c = wide_count c.two_bytes.result (λ x. x.0) (λ x. x.1.now) 222 2 fields.Map c.args.bytes.now _ (after_byte 222 c.args.bytes.now (omega arith) (omega arith)) refl c.two_bytes.ensures.room c.two_bytes.ensures.value c.two_bytes.ensures.rest

pub returns-in-128-to-143 : goal.returns-in-128-to-143
returns-in-128-to-143 c = fix_map _ c.args.bytes.now _ (after_byte _ c.args.bytes.now (omega arith) refl) (omega arith) (omega arith)

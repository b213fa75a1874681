use Rattle.serf_wire.proofs.Names.{arith, refl}
use Rattle.serf_wire.proofs.FastReading.{after_byte, fix_raw, wide_raw}
use Rattle.serf_wire.proofs.compact.read_raw.Goals as goal

pub returns-in-160-to-191 : goal.returns-in-160-to-191
returns-in-160-to-191 c =
    fix_raw c.laws_below.ensures c.split-in-160-to-191.result (λ x. x.0.now) (λ x. x.1.now) _ c.args.bytes.now _ (after_byte _ c.args.bytes.now (omega arith) refl) (omega arith) (omega arith) c.split-in-160-to-191.ensures.room c.split-in-160-to-191.ensures.front c.split-in-160-to-191.ensures.rest

pub returns-in_ok-n-in-218 : goal.returns-in_ok-n-in-218
returns-in_ok-n-in-218 c =
    wide_raw c.laws_below.ensures c.split.result (λ x. x.0.now) (λ x. x.1.now) 218 2 c.in_ok-n-in-218.n c.args.bytes.now _ c.in_ok-n-in-218.rest.now (after_byte 218 c.args.bytes.now (omega arith) (omega arith)) refl c.in_ok-n-in-218.ensures.room c.in_ok-n-in-218.ensures.value c.in_ok-n-in-218.ensures.rest
    c.split.ensures.room c.split.ensures.front c.split.ensures.rest

use Rattle.serf_wire.proofs.Names.{arith, subst, sym, ReadsIn, slot, events_found, held}
use Rattle.serf_wire.proofs.FastReading.{after_byte}
use Rattle.serf_wire.proofs.FastPairs.{if_some}
use Rattle.serf_wire.proofs.fast.slots.read_held.Goals as goal

pub returns : goal.returns
returns c =
    if_some c.read_fields.result _ _ (λ x r. subst (λ b. ReadsIn 6 slot (held x.0 (events_found x.1)) b x.2.now) (sym (after_byte 0x82 c.args.bytes.now (omega arith) (omega arith))) r) c.read_fields.ensures

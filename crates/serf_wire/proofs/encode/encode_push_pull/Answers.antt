use Rattle.serf_wire.proofs.Names.{subst, sym, ◌∙◌, without_empty_slots, Message, push_pull, push_pull_of, Spells}
use Rattle.serf_wire.proofs.Mapped.{canonical_parts}
use Rattle.serf_wire.proofs.CanonicalPackets.{canonical_spells}
use Rattle.serf_wire.proofs.encode.encode_push_pull.Goals as goal

pub returns-clause-canonical : goal.returns-clause-canonical
returns-clause-canonical c = c.in_ok-write_push_pull.ensures.bytes ∙ sym (canonical_parts c.args.parts.now)

pub returns-clause-spells : goal.returns-clause-spells
returns-clause-spells c =
    let m : Message = push_pull (push_pull_of c.args.parts.now) in
    subst (Spells (without_empty_slots m)) (canonical_parts c.args.parts.now ∙ sym c.in_ok-write_push_pull.ensures.bytes)
    (canonical_spells c.laws_below.ensures m c.in_ok-write_push_pull.ensures.ranged (sym c.is_long_push_pull.ensures ∙ c.if-is_long_push_pull.false))

use Rattle.serf_wire.proofs.Names.{subst, sym, ◌∙◌, Message, query, query_of, Spells}
use Rattle.serf_wire.proofs.CanonicalPackets.{canonical_spells}
use Rattle.serf_wire.proofs.encode.encode_query.Goals as goal

pub returns-clause-spells : goal.returns-clause-spells
returns-clause-spells c =
    let m : Message = query (query_of c.args.parts.now) in
    subst (Spells m) (sym c.in_ok-write_query.ensures.bytes) (canonical_spells c.laws_below.ensures m c.in_ok-write_query.ensures.ranged (sym c.is_long_query.ensures ∙ c.if-is_long_query.false))

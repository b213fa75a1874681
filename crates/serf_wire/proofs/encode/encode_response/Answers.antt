use Rattle.serf_wire.proofs.Names.{subst, sym, ◌∙◌, Message, QueryResponse, query_response, response_said, Spells}
use Rattle.serf_wire.proofs.Short.{short_response_texts}
use Rattle.serf_wire.proofs.CanonicalPackets.{canonical_spells}
use Rattle.serf_wire.proofs.encode.encode_response.Goals as goal

pub returns-clause-spells : goal.returns-clause-spells
returns-clause-spells c =
    let r : QueryResponse = response_said c.args.response.now in
    let none = short_response_texts r (sym c.is_long_text.ensures ∙ c.if-is_long_text.false) (sym c.is_long_text-else-is_long_text.ensures ∙ c.if-is_long_text-2.false) in
    subst (Spells (query_response r)) (sym c.in_ok-write_response.ensures.bytes) (canonical_spells c.laws_below.ensures (query_response r) c.in_ok-write_response.ensures.ranged none)

use Rattle.serf_agent.proofs.Names.{Err, ap, sym, ◌∙◌, true≢false, query_of, EncodeError}
use Rattle.serf_agent.proofs.WireLaws.{query-not_long}
use Rattle.serf_agent.proofs.query_firing.packet_of.Goals as goal

pub unreachable-requires : goal.unreachable-requires
unreachable-requires c =
    let is_long = c.in-Err-TooLong.ensures.too_long.0 (ap (λ (x : EncodeError). Err x) c.in-Err-TooLong.field-0-is) in
    true≢false (sym is_long ∙ query-not_long (query_of c.args.parts.now) c.requires)

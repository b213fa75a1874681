use Rattle.serf_agent.proofs.Names.{Err, [], ap, arith, sym, ◌∙◌, true≢false, EncodeError}
use Rattle.serf_agent.proofs.WireLaws.{response-not_long}
use Rattle.serf_agent.proofs.pending_query.ack_of.Goals as goal

pub unreachable-requires : goal.unreachable-requires
unreachable-requires g c =
    let is_long = c.in-Err-TooLong.ensures.too_long.0 (ap (λ (x : EncodeError). Err x) c.in-Err-TooLong.field-0-is) in
    true≢false (sym is_long ∙ response-not_long _ _ c.args.node.now _ [] (omega arith) (omega arith))

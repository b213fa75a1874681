use Rattle.serf_agent.proofs.Names.{Err, ap, sym, ◌∙◌, true≢false, has_long, EncodeError}
use Rattle.serf_agent.proofs.WireLaws.{response-not_long, response-short}
use Rattle.serf_agent.proofs.pending_query.PendingQuery.packet_of.Goals as goal

pub unreachable-requires : goal.unreachable-requires
unreachable-requires c =
    let is_long = c.in-Err-TooLong.ensures.too_long.0 (ap (λ (x : EncodeError). Err x) c.in-Err-TooLong.field-0-is) in
    let short = response-short c.args.self.now.time c.args.self.now.id c.args.self.now.node 0 c.args.payload.now c.requires in
    true≢false (sym is_long ∙ ap has_long c.response.ensures ∙ response-not_long _ _ c.args.self.now.node _ c.args.payload.now short.0 short.1)

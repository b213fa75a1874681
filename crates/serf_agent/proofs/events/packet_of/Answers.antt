use Rattle.serf_agent.proofs.Names.{Err, ap, sym, ◌∙◌, true≢false, EncodeError}
use Rattle.serf_agent.proofs.WireLaws.{event-not_long}
use Rattle.serf_agent.proofs.events.packet_of.Goals as goal

pub unreachable-requires : goal.unreachable-requires
unreachable-requires c =
    let is_long = c.in-Err-TooLong.ensures.too_long.0 (ap (λ (x : EncodeError). Err x) c.in-Err-TooLong.field-0-is) in
    true≢false (sym is_long ∙ event-not_long c.args.event.now.time c.args.event.now.name.now c.args.event.now.payload.now c.args.event.now.coalesce c.requires)

use Rattle.serf_wire.proofs.Names.{eqb-true, sym}
use Rattle.serf_wire.proofs.FastPairs.{none_left}
use Rattle.serf_wire.proofs.FastEvent.{event_whole}
use Rattle.serf_wire.proofs.fast.event.read_user_event.Goals as goal

pub returns : goal.returns
returns c =
    event_whole c.event_of.result c.in-Some.found c.in_ok-count.count c.args.bytes.now c.in_ok-count.pairs.now c.in-Some.end.now c.in_ok-count.ensures.head c.in_ok-count.ensures.small
    (none_left c.in-Some.end.now (eqb-true _ _ (sym c.if-not-is_empty.ensures))) c.in-Some.ensures c.event_of.ensures.event c.event_of.ensures.time

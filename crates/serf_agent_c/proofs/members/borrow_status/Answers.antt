use Rattle.serf_agent_c.proofs.Names.{arith, map-append, take_more}
use Rattle.serf_agent_c.proofs.members.borrow_status.Goals as goal

pub loop-member-preserved : goal.loop-member-preserved
loop-member-preserved c =
    let more = take_more c.args.members.now c.loop-member.member-index c.member-item.result (omega arith) in
    rw (c.in_ok-push.ensures.items, more, map-append, map-append, c.loop-member.invariant, c.as_slice.ensures, ← c.member-item.is)

use Rattle.serf_explain.proofs.Names.{on_ok_weaker, event_as}
use Rattle.serf_explain.proofs.LeftLaws.{adds_ignored}
use Rattle.serf_explain.proofs.seen.write_delivered.Goals as goal

pub returns : goal.returns
returns c =
    let context = c.args.context.now in
    on_ok_weaker c.write_because.result
    (λ is. adds_ignored c.args.reason context.past.now context.number context.world.now c.args.of.now.to (event_as c.args.of.now.event) c.args.out.now.items c.write_because.new.out.items c.in_ok-text.text.items c.write_ignored_event.new.out.items c.deref.result.now
    c.in_ok-text.ensures.items c.in_ok-write_ignored_event.ensures c.deref.ensures.value is)
    c.write_because.ensures

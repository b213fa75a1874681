use Rattle.serf_explain.proofs.Names.{on_ok_weaker}
use Rattle.serf_explain.proofs.LeftLaws.{buffers_is}
use Rattle.serf_explain.proofs.answers.write_buffers.Goals as goal

pub returns : goal.returns
returns c = on_ok_weaker c.say-3.result
    (λ is. buffers_is c.args.agent.now.concrete c.held_events.result c.event_time.result c.query_time.result c.args.out.now.items c.say.new.out.items c.say-2.new.out.items c.say-3.new.out.items
    c.held_events.ensures.count c.event_time.ensures c.query_time.ensures c.in_ok-say.ensures c.in_ok-say-2.ensures is)
    c.say-3.ensures

use Rattle.serf_explain.proofs.Names.{on_ok_weaker, event_of, judge_takes}
use Rattle.serf_explain.proofs.CarriedLaws.{detail-is}
use Rattle.serf_explain.proofs.merge_reasons.write_detail.Goals as goal

pub returns-in_default : goal.returns-in_default
returns-in_default c =
    let m = c.args.merging.now in
    let event = c.args.event.now in
    on_ok_weaker c.write_ignored_detail.result
    (λ is. detail-is m.agent.now.concrete.config.name (judge_takes m c.args.judge.now) c.takes_of-takes.result c.args.handed event.time (event_of event.name.now event.payload.now) c.in-Some.reason c.args.verdict c.bytes.result c.args.out.now.items c.write_ignored_detail.new.out.items
    c.in-Some.is c.in_default.not-Seen c.takes_of-takes.ensures c.bytes.ensures is)
    c.write_ignored_detail.ensures

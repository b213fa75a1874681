use Rattle.serf_explain.proofs.Names.{on_ok_weaker}
use Rattle.serf_explain.proofs.ReasonLaws.{adds-following, adds-both}
use Rattle.serf_explain.proofs.reasons.write_events_until_failure.Goals as goal

pub returns-then-handed-eq0 : goal.returns-then-handed-eq0
returns-then-handed-eq0 c = on_ok_weaker c.write_one.result
    (λ some. adds-following c.args.context.now.number c.args.out.now.items c.loop-line.out.items c.write_one.new.out.items c.loop-line.invariant some)
    c.write_one.ensures

pub loop-line-preserved : goal.loop-line-preserved
loop-line-preserved c = adds-both c.args.context.now.number c.args.out.now.items c.loop-line.out.items c.write_again.new.out.items c.loop-line.invariant c.in_ok-write_again.ensures

pub returns : goal.returns
returns c = on_ok_weaker c.write_lone.result
    (λ some. adds-following c.args.context.now.number c.args.out.now.items c.loop-line.out.items c.write_lone.new.out.items c.loop-line.invariant some)
    c.write_lone.ensures

use Rattle.serf_explain.proofs.Names.{on_ok_weaker}
use Rattle.serf_explain.proofs.CarriedLaws.{adds-no-event}
use Rattle.serf_explain.proofs.reasons.write_events.Goals as goal

pub returns-then-lines-eq0 : goal.returns-then-lines-eq0
returns-then-lines-eq0 c = λ carried lines. on_ok_weaker c.write_because.result (λ is. adds-no-event c.args.number carried c.args.lines.now c.args.out.now.items c.write_because.new.out.items lines c.if-lines-eq0.true is) c.write_because.ensures

use Rattle.serf_explain.proofs.Names.{on_ok_weaker}
use Rattle.serf_explain.proofs.ReasonLaws.{adds-none, reasons-of}
use Rattle.serf_explain.proofs.reasons.write_again.Goals as goal

pub returns-then-reason-eq0 : goal.returns-then-reason-eq0
returns-then-reason-eq0 c = adds-none c.args.number c.args.out.now.items

pub returns : goal.returns
returns c = on_ok_weaker c.write_one.result (λ some. reasons-of c.args.number c.args.out.now.items c.write_one.new.out.items some) c.write_one.ensures

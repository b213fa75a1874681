use Rattle.serf_explain.proofs.Names.{on_ok_weaker}
use Rattle.serf_explain.proofs.ReasonLaws.{adds-one}
use Rattle.serf_explain.proofs.reasons.write_one.Goals as goal

pub returns : goal.returns
returns c = on_ok_weaker c.write_because.result (λ is. adds-one c.args.number c.args.out.now.items c.write_because.new.out.items _ is) c.write_because.ensures

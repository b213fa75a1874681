use Rattle.serf_explain.proofs.Names.{on_ok_weaker}
use Rattle.serf_explain.proofs.LeftLaws.{since_is}
use Rattle.serf_explain.proofs.left.write_since.Goals as goal

pub returns-else-since-eq0 : goal.returns-else-since-eq0
returns-else-since-eq0 c = on_ok_weaker c.say.result (λ is. since_is c.args.since c.args.out.now.items c.say.new.out.items c.if-since-eq0.false is) c.say.ensures

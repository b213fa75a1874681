use Rattle.serf_explain.proofs.LeftLaws.{below_is}
use Rattle.serf_explain.proofs.left.write_below.Goals as goal

pub returns : goal.returns
returns c = below_is c.args.time c.args.slots c.args.out.now.items c.say.new.out.items c.say-2.new.out.items c.extend_from_slice.new.self.items c.in_ok-say.ensures c.in_ok-say-2.ensures c.in_ok-extend_from_slice.ensures.items

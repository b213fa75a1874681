use Rattle.serf_pack.proofs.Names.{value_at, pairs_left}
use Rattle.serf_pack.proofs.PartCounts.{pair_count_is}
use Rattle.serf_pack.proofs.walk.Pairs.new.Goals as goal

pub returns-clause-count : goal.returns-clause-count
unfolding pairs_left
returns-clause-count c = pair_count_is (value_at c.args.depth_left c.args.total) c.args.left c.args.rest.now c.requires.checked

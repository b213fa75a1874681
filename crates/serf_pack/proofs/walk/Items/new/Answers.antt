use Rattle.serf_pack.proofs.Names.{value_at, items_left}
use Rattle.serf_pack.proofs.PartCounts.{item_count_is}
use Rattle.serf_pack.proofs.walk.Items.new.Goals as goal

pub returns-clause-count : goal.returns-clause-count
unfolding items_left
returns-clause-count c = item_count_is (value_at c.args.depth_left c.args.total) c.args.left c.args.rest.now c.requires.checked

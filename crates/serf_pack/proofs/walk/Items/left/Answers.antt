use Rattle.serf_pack.proofs.Names.{sym, value_at, items_left}
use Rattle.serf_pack.proofs.PartCounts.{item_count_is}
use Rattle.serf_pack.proofs.walk.Items.left.Goals as goal

pub returns : goal.returns
unfolding items_left
returns c =
    let walk = c.args.self.now in
    sym (item_count_is (value_at walk.depth_left walk.total) walk.left walk.rest.now walk.checked)

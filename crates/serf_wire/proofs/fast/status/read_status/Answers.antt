use Rattle.serf_wire.proofs.Names.{lit<, tree_of, status, status_left, status_in}
use Rattle.serf_wire.proofs.Meanings.{status_exact}
use Rattle.serf_wire.proofs.FastLists.{borrowed_reads, packed_before}
use Rattle.serf_wire.proofs.fast.status.read_status.Goals as goal

pub view_before-map-requires-clause-packed : goal.view_before-map-requires-clause-packed
view_before-map-requires-clause-packed c = packed_before 8 status c.args.bytes.now c.in_ok-rest.rest.now c.in_ok-rest.ensures (lit< tt)

pub returns : goal.returns
returns c = borrowed_reads 8 status c.args.bytes.now c.in_ok-rest.rest.now c.in_ok-rest.ensures status_in _ (tree_of c.view_before-map.result) (status_left c.of.result) status_exact (lit< tt) c.view_before-map.ensures c.of.ensures

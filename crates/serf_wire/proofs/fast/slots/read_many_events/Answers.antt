use Rattle.serf_wire.proofs.Names.{lit<, tree_of, event_body, list, events_left, event_body_in, list_in}
use Rattle.serf_wire.proofs.MessageFields.{events_exact}
use Rattle.serf_wire.proofs.FastLists.{borrowed_reads, packed_before}
use Rattle.serf_wire.proofs.fast.slots.read_many_events.Goals as goal

pub view_before-list-requires-clause-packed : goal.view_before-list-requires-clause-packed
view_before-list-requires-clause-packed c = packed_before 7 (list event_body) c.args.bytes.now c.in_ok-rest.rest.now c.in_ok-rest.ensures (lit< tt)

pub returns : goal.returns
returns c = borrowed_reads 7 (list event_body) c.args.bytes.now c.in_ok-rest.rest.now c.in_ok-rest.ensures (list_in event_body_in) _ (tree_of c.view_before-list.result) (events_left c.of.result) events_exact (lit< tt) c.view_before-list.ensures c.of.ensures

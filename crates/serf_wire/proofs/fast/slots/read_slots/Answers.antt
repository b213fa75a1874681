use Rattle.serf_wire.proofs.Names.{lit<, tree_of, list, slot, slots_left, list_in, slot_in}
use Rattle.serf_wire.proofs.MessageFields.{slots_exact}
use Rattle.serf_wire.proofs.FastLists.{borrowed_reads, packed_before}
use Rattle.serf_wire.proofs.fast.slots.read_slots.Goals as goal

pub view_before-list-requires-clause-packed : goal.view_before-list-requires-clause-packed
view_before-list-requires-clause-packed c = packed_before 5 (list slot) c.args.bytes.now c.in_ok-rest.rest.now c.in_ok-rest.ensures (lit< tt)

pub returns : goal.returns
returns c = borrowed_reads 5 (list slot) c.args.bytes.now c.in_ok-rest.rest.now c.in_ok-rest.ensures (list_in slot_in) _ (tree_of c.view_before-list.result) (slots_left c.of.result) slots_exact (lit< tt) c.view_before-list.ensures c.of.ensures

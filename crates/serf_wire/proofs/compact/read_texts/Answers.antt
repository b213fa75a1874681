use Rattle.serf_wire.proofs.Names.{lit<, tree_of, list, text, texts_left, list_in, text_in}
use Rattle.serf_wire.proofs.MessageFields.{texts_exact}
use Rattle.serf_wire.proofs.FastLists.{borrowed_reads, packed_before}
use Rattle.serf_wire.proofs.compact.read_texts.Goals as goal

pub view_before-list-requires-clause-packed : goal.view_before-list-requires-clause-packed
view_before-list-requires-clause-packed c = packed_before 8 (list text) c.args.bytes.now c.in_ok-rest.rest.now c.in_ok-rest.ensures (lit< tt)

pub returns : goal.returns
returns c = borrowed_reads 8 (list text) c.args.bytes.now c.in_ok-rest.rest.now c.in_ok-rest.ensures (list_in text_in) _ (tree_of c.view_before-list.result) (texts_left c.of.result) texts_exact (lit< tt) c.view_before-list.ensures c.of.ensures

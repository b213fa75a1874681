use Rattle.serf_judge.proofs.Names.{take, ◌++◌, ◌≡◌, nodes_in, texts_of}
use Rattle.serf_judge.proofs.nodes.add_nodes.Given as goal

abbrev pub invariant-loop-entry : goal.invariant-loop-entry
invariant-loop-entry g l = texts_of l.nodes.items ≡ texts_of l.fn.nodes.items ++ nodes_in g.E.Delivered.seen (take l.entry-index l.entries)

use Rattle.serf_judge.proofs.Names.{map, take, ◌≡◌, texts_of}
use Rattle.serf_judge.proofs.tally.nodes_in_order.Given as goal

abbrev pub invariant-loop-line : goal.invariant-loop-line
invariant-loop-line l = texts_of l.nodes.items ≡ map (λ h. h.key.node.now) (take l.line-index l.lines)

use Rattle.serf_judge.proofs.Names.{map, take, ◌≡◌, handed_seen, lines_to, tally_of, told_of}
use Rattle.serf_judge.proofs.tally.tallies.Given as goal

abbrev pub invariant-loop-node : goal.invariant-loop-node
invariant-loop-node l = map told_of l.told.items ≡ map (λ n. (n.now, tally_of (lines_to n.now (map handed_seen l.fn.lines)))) (take l.node-index l.node-items)

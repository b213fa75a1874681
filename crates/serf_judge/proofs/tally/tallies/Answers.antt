use Rattle.serf_judge.proofs.Names.{map, handed_seen, told_of}
use Rattle.serf_judge.proofs.TallyLaws.{told-all}
use Rattle.serf_judge.proofs.tally.tallies.Goals as goal

pub returns : goal.returns
returns c =
    told-all (map handed_seen c.args.lines.now) (map told_of c.loop-node.told.items) c.as_slice-node-items.result.now c.in_ok-nodes.nodes.items c.loop-node.node-index
    c.loop-node.invariant c.loop-node-test.false c.as_slice-node-items.ensures.value c.in_ok-nodes.ensures

use Rattle.serf_judge_json.proofs.Names.{take, ◌++◌, ◌≡◌, flat_map, node_text}
use Rattle.serf_judge_json.proofs.entries.write_nodes.Given as goal

-- the first of the nodes were written
abbrev pub invariant-loop-node : goal.invariant-loop-node
invariant-loop-node l = l.out.items ≡ l.fn.out.items ++ flat_map (λ node. node_text node.now) (take l.node-index l.nodes)

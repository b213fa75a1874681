use Rattle.serf_judge_json.proofs.Names.{take, ◌++◌, ◌≡◌, flat_map, missing_view}
use Rattle.serf_judge_json.specs.Missing.{missing_text}
use Rattle.serf_judge_json.proofs.missing.write_missing_nodes.Given as goal

-- the first of the nodes were written
abbrev pub invariant-loop-node : goal.invariant-loop-node
invariant-loop-node l = l.out.items ≡ l.fn.out.items ++ flat_map (λ node. missing_text (missing_view l.event).event node.now) (take l.node-index l.node-items)

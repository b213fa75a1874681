use Rattle.serf_judge_json.proofs.Names.{take, ◌++◌, ◌≡◌, flat_map, missing_view}
use Rattle.serf_judge_json.specs.Missing.{missing_nodes_text}
use Rattle.serf_judge_json.proofs.missing.write_missed.Given as goal

-- the first of the events were written
abbrev pub invariant-loop-event : goal.invariant-loop-event
invariant-loop-event l = l.out.items ≡ l.fn.out.items ++ flat_map (λ event. missing_nodes_text (missing_view event)) (take l.event-index l.event-items)

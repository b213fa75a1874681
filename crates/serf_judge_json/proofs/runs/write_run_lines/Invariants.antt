use Rattle.serf_judge_json.proofs.Names.{take, ◌++◌, ◌≡◌, flat_map, run_seen}
use Rattle.serf_judge_json.specs.Runs.{run_text}
use Rattle.serf_judge_json.proofs.runs.write_run_lines.Given as goal

-- the first of the lines were written
abbrev pub invariant-loop-run : goal.invariant-loop-run
invariant-loop-run l = l.out.items ≡ l.fn.out.items ++ flat_map (λ run. run_text l.finder.places (run_seen run)) (take l.run-index l.runs)

use Rattle.serf_judge_json.proofs.Names.{take, ◌++◌, ◌≡◌, flat_map, bad_text}
use Rattle.serf_judge_json.proofs.entries.write_bad.Given as goal

-- the first of the lines were written
abbrev pub invariant-loop-line : goal.invariant-loop-line
invariant-loop-line l = l.out.items ≡ l.fn.out.items ++ flat_map (bad_text l.finder.places) (take l.line-index l.bad)

use Rattle.serf_judge_json.proofs.Names.{codes, take, ◌++◌, ◌≡◌, flat_map, handed_seen}
use Rattle.serf_judge_json.specs.Entries.{entry_text}
use Rattle.serf_judge_json.specs.declared.kind.Kind.TheVariants as kinds
use Rattle.serf_judge_json.proofs.runs.write_cut_off.Given as goal

-- the first of the lines were written
abbrev pub invariant-loop-line : goal.invariant-loop-line
invariant-loop-line l = l.out.items ≡ l.fn.out.items ++ flat_map (λ line. entry_text l.finder.places (codes "cut-off") kinds.Event (handed_seen line)) (take l.line-index l.line-items)

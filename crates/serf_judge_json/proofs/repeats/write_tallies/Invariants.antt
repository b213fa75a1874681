use Rattle.serf_judge_json.proofs.Names.{take, ◌++◌, ◌≡◌, flat_map, told_of}
use Rattle.serf_judge_json.specs.Repeats.{tally_text}
use Rattle.serf_judge_json.proofs.repeats.write_tallies.Given as goal

-- the first of the tallies were written
abbrev pub invariant-loop-told : goal.invariant-loop-told
invariant-loop-told g l = l.out.items ≡ l.fn.out.items ++ flat_map (λ told. tally_text l.finder.places l.kind (told_of told)) (take l.told-index l.told-items)

use Rattle.serf_judge_json.proofs.Names.{take, ◌++◌, ◌≡◌, entries_text}
use Rattle.serf_judge_json.proofs.entries.write_entries.Given as goal

-- the first of the entries were written
abbrev pub invariant-loop-entry : goal.invariant-loop-entry
invariant-loop-entry g l = l.out.items ≡ l.fn.out.items ++ entries_text l.finder.places l.object l.kind g.E.Delivered.seen (take l.entry-index l.entries)

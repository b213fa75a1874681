use Rattle.serf_judge.proofs.Names.{map, ◌++◌, ◌≡◌, into_iter_items, moved_on}
use Rattle.serf_judge.proofs.joined.joined.Given as goal

-- those so far, followed by those that are left
abbrev pub invariant-loop-one : goal.invariant-loop-one
invariant-loop-one g l = map g.T.Numbered.seen l.all.items ++ moved_on l.fn.lines (map g.T.Numbered.seen (into_iter_items l.one-iterator)) ≡ map g.T.Numbered.seen l.fn.first.items ++ moved_on l.fn.lines (map g.T.Numbered.seen l.fn.more.items)

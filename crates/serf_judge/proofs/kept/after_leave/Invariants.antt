use Rattle.serf_judge.proofs.Names.{length, ◌≡◌, lines_of, counted_from, counted_lines}
use Rattle.serf_judge.proofs.kept.after_leave.Given as goal

-- what is effective so far, together with what is left, has the same effect as all of it
abbrev pub invariant-lines : goal.invariant-lines
invariant-lines l = counted_from (lines_of l.start) (lines_of l.rest) ≡ counted_lines (lines_of l.fn.text)

abbrev pub decreases-lines : goal.decreases-lines
decreases-lines l = length l.rest

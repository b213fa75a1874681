use Rattle.serf_judge.proofs.Names.{length, ◌≡◌, list_any, lines_of, is_line_wanted}
use Rattle.serf_judge.proofs.kept.has_line.Given as goal

-- what is left has a line of this kind if and only if all of it has one
abbrev pub invariant-lines : goal.invariant-lines
invariant-lines l = list_any (is_line_wanted l.own) (lines_of l.rest) ≡ list_any (is_line_wanted l.fn.own) (lines_of l.fn.text)

abbrev pub decreases-lines : goal.decreases-lines
decreases-lines l = length l.rest

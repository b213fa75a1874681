use Rattle.serf_conform.proofs.Names.{length, ◌≡◌, lines_mean}
use Rattle.serf_conform.proofs.meaning.lines_agree.Given as goal

-- Whether all lines mean the expected ones depends only on the lines that are left.
abbrev pub invariant-lines : goal.invariant-lines
invariant-lines l = lines_mean l.given l.wanted l.got ≡ lines_mean l.given l.fn.wanted l.fn.got

abbrev pub decreases-lines : goal.decreases-lines
decreases-lines l = length l.wanted

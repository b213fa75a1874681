use Rattle.serf_text.proofs.Names.{List, [], length, ℕ, ◌++◌, ◌+◌, ◌==◌, ◌≡◌, ◌≤◌, slice_split}
use Rattle.serf_text.proofs.whole.report_text.Given as goal

-- the lines before the remaining ones were processed, and this text was reported for them
abbrev pub invariant-lines : goal.invariant-lines
invariant-lines g l = (g.J.LineReporter.told l.initial.job [] [] → (lines : List (List ℕ)) × g.J.LineReporter.told l.job lines l.all.items
    × (slice_split (λ b. b == 10) l.fn.input ≡ lines ++ slice_split (λ b. b == 10) l.rest)
    × (l.number ≡ length lines + 1))
    × (l.number + length l.rest ≤ length l.fn.input + 1)

abbrev pub decreases-lines : goal.decreases-lines
decreases-lines g l = length l.rest

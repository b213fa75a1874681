use Rattle.serf_text.proofs.Names.{List, length, ℕ, ◌++◌, ◌≡◌, lines_of, HasRead, Reached}
use Rattle.std.specs.Prelude.{Option}
use Rattle.serf_text.proofs.LineLaws.{onto}
use Rattle.serf_text.proofs.stream.answer_lines_in.Given as goal

-- the lines so far were processed, and the remaining ones begin with what is held
abbrev pub invariant-lines : goal.invariant-lines
invariant-lines g l = (before : List ℕ) (first : Option (List ℕ))
    → HasRead g.J.LineReporter.told l.fn.job l.fn.kept.held.items l.fn.kept.number l.fn.kept.waiting.items before first (g.W.Write.contents l.fn.writer)
    → (lines : List (List ℕ)) × (lines_of (before ++ l.bytes) ≡ lines ++ onto l.kept.held.items (lines_of l.rest))
    × Reached g.J.LineReporter.told l.job l.kept.number l.kept.waiting.items lines first (g.W.Write.contents l.writer)

abbrev pub decreases-lines : goal.decreases-lines
decreases-lines g l = length l.rest

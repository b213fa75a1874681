use Rattle.serf_text.proofs.Names.{List, [], ℕ, ◌≡◌, Consumes, HasRead}
use Rattle.serf_text.proofs.stream.report_lines.Given as goal

-- what was read is what the reader has lost, and the complete lines in it were processed
abbrev pub invariant-loop-turn : goal.invariant-loop-turn
invariant-loop-turn g l = (g.J.LineReporter.told l.fn.job [] [] → (bytes : List ℕ)
    × Consumes (g.R.Read.remaining l.fn.reader) (g.R.Read.remaining l.reader) bytes
    × HasRead g.J.LineReporter.told l.job l.kept.held.items l.kept.number l.kept.waiting.items bytes (g.W.Write.contents l.fn.writer) (g.W.Write.contents l.writer))
    × (l.kept.waiting.items ≡ [])

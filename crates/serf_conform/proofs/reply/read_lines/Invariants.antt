use Rattle.serf_conform.proofs.Names.{[], length, ◌+◌, ◌==◌, ◌≡◌, ◌≤◌, slice_split, after_lines}
use Rattle.serf_conform.proofs.reply.read_lines.Given as goal

-- The lines that are left, read after those so far, lead to the result.
abbrev pub invariant-lines : goal.invariant-lines
invariant-lines l = (after_lines l.line l.lines.items (slice_split (λ b. b == 10) l.rest) ≡ after_lines 2 [] (slice_split (λ b. b == 10) l.fn.text))
    × (l.line + length l.rest ≤ length l.fn.text + 2)

abbrev pub decreases-lines : goal.decreases-lines
decreases-lines l = length l.rest

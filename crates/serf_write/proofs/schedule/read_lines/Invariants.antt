use Rattle.serf_write.proofs.Names.{length, ◌+◌, ◌≡◌, ◌≤◌, slice_split, ◌==◌, after_lines, written_of}
use Rattle.serf_write.proofs.schedule.read_lines.Given as goal

-- the lines so far, and after them the remaining lines, make up the result
abbrev pub invariant-lines : goal.invariant-lines
invariant-lines g l = (after_lines l.number l.writing (slice_split (λ b. b == 10) l.rest) ≡ written_of l.fn.text)
    × (l.number + length l.rest ≤ length l.fn.text + 1)

abbrev pub decreases-lines : goal.decreases-lines
decreases-lines g l = length l.rest

use Rattle.serf_schedule.proofs.Names.{length, ◌+◌, ◌==◌, ◌≡◌, ◌≤◌, slice_split, after_lines, parsed_of, schedule_of}
use Rattle.serf_schedule.proofs.parse.parse_schedule.Given as goal

-- the lines so far, and after them the remaining lines, make up the result
abbrev pub invariant-lines : goal.invariant-lines
invariant-lines l = (after_lines l.number (parsed_of l.parsed) (slice_split (λ b. b == 10) l.rest) ≡ schedule_of l.fn.text)
    × (l.number + length l.rest ≤ length l.fn.text + 1)

abbrev pub decreases-lines : goal.decreases-lines
decreases-lines l = length l.rest

use Rattle.serf_text.proofs.Names.{length, ◌≤◌, Consumes, MAX_SCHEDULE_BYTES}
use Rattle.serf_text.proofs.input.read_input.Given as goal

-- each turn has read at least one byte, and the input has exactly what the reader has lost
abbrev pub invariant-loop-turn : goal.invariant-loop-turn
invariant-loop-turn g l = (length l.input.items ≤ MAX_SCHEDULE_BYTES)
    × (l._turn ≤ length l.input.items)
    × Consumes (g.R.Read.remaining l.fn.reader) (g.R.Read.remaining l.reader) l.input.items

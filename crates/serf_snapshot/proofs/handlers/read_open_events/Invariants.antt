use Rattle.serf_snapshot.proofs.Names.{length, [], ◌≡◌, lines_of}
use Rattle.serf_snapshot.specs.Handlers.{open_after_lines, tracked_lines}
use Rattle.serf_snapshot.proofs.handlers.read_open_events.Given as goal

-- what is open so far, and then what the rest makes of it
abbrev pub invariant-lines : goal.invariant-lines
invariant-lines l = open_after_lines l.events.items (lines_of l.left) ≡ open_after_lines [] (tracked_lines (lines_of l.fn.text))

abbrev pub decreases-lines : goal.decreases-lines
decreases-lines l = length l.left

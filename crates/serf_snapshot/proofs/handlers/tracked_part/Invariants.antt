use Rattle.serf_snapshot.proofs.Names.{length, ◌≡◌, lines_of}
use Rattle.std.specs.List.{list_any}
use Rattle.serf_snapshot.specs.Handlers.{is_done_up_to, tracked_lines}
use Rattle.serf_snapshot.proofs.handlers.tracked_part.Given as goal

-- no line so far is `#done TIME`
abbrev pub invariant-lines : goal.invariant-lines
invariant-lines l =
    (tracked_lines (lines_of l.left) ≡ tracked_lines (lines_of l.fn.text))
    × (list_any is_done_up_to (lines_of l.left) ≡ list_any is_done_up_to (lines_of l.fn.text))

abbrev pub decreases-lines : goal.decreases-lines
decreases-lines l = length l.left

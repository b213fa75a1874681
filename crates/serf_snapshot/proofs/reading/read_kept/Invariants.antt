use Rattle.serf_snapshot.proofs.Names.{length, ◌++◌, ◌≡◌, lines_of, events_of_lines, queries_of_lines}
use Rattle.serf_snapshot.proofs.reading.read_kept.Given as goal

-- the ones that were read so far, followed by those of the rest
abbrev pub invariant-lines : goal.invariant-lines
invariant-lines l = record {
  events : l.kept.events.items ++ events_of_lines l.events (lines_of l.left) ≡ events_of_lines l.events (lines_of l.fn.text);
  queries : l.kept.queries.items ++ queries_of_lines l.queries (lines_of l.left) ≡ queries_of_lines l.queries (lines_of l.fn.text);
}

abbrev pub decreases-lines : goal.decreases-lines
decreases-lines l = length l.left

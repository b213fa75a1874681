use Rattle.serf_snapshot.proofs.Names.{length, max, ◌≡◌, ◌≤◌, largest, lines_of, min_of_lines, Event, Member, Query}
use Rattle.serf_snapshot.proofs.reading.read_times.Given as goal

-- the largest so far, together with the largest of the rest
abbrev pub invariant-lines : goal.invariant-lines
invariant-lines l = record {
  member : max l.times.clocks.member_clock (largest Member (lines_of l.left)) ≡ largest Member (lines_of l.fn.text);
  event : max l.times.clocks.event_clock (largest Event (lines_of l.left)) ≡ largest Event (lines_of l.fn.text);
  query : max l.times.clocks.query_clock (largest Query (lines_of l.left)) ≡ largest Query (lines_of l.fn.text);
  events : max l.times.lowest.events (min_of_lines Event (lines_of l.left)) ≡ min_of_lines Event (lines_of l.fn.text);
  queries : max l.times.lowest.queries (min_of_lines Query (lines_of l.left)) ≡ min_of_lines Query (lines_of l.fn.text);
  events_some : 1 ≤ l.times.lowest.events;
  queries_some : 1 ≤ l.times.lowest.queries;
}

abbrev pub decreases-lines : goal.decreases-lines
decreases-lines l = length l.left

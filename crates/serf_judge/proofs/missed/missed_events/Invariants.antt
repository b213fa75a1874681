use Rattle.serf_judge.proofs.Names.{map, take, ◌≡◌, filter, has_nodes, missing_view}
use Rattle.serf_judge.proofs.MissedLaws.{row_of}
use Rattle.serf_judge.proofs.missed.missed_events.Given as goal

-- those of the events so far
abbrev pub invariant-loop-event : goal.invariant-loop-event
invariant-loop-event l = map missing_view l.missed.items ≡ filter has_nodes (map (row_of l.fn.maximum l.fn.entries) (take l.event-index l.all))

use Rattle.serf_world.proofs.Names.{map, ◌++◌, ◌≡◌, into_iter_items, event_line}
use Rattle.serf_world.proofs.line.line_with_events.Given as goal

-- the lines so far, and those of the events that are left
abbrev pub invariant-loop-event : goal.invariant-loop-event
invariant-loop-event l = l.lines.items ++ map (event_line l.agent) (into_iter_items l.event-iterator) ≡ map (event_line l.agent) l.fn.events.items

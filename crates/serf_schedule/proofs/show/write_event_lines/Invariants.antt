use Rattle.serf_schedule.proofs.Names.{take, ◌++◌, ◌≡◌, flat_map, event_line}
use Rattle.serf_schedule.proofs.show.write_event_lines.Given as goal

abbrev pub invariant-loop-event : goal.invariant-loop-event
invariant-loop-event l = l.out.items ≡ l.fn.out.items ++ flat_map (event_line l.action.number) (take l.event-index l.events)

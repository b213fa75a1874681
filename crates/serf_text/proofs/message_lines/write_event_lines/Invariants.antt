use Rattle.serf_text.proofs.Names.{◌++◌, ◌≡◌, flat_map, events_left, event_line}
use Rattle.serf_text.proofs.message_lines.write_event_lines.Given as goal

-- the lines so far, followed by those of the rest
abbrev pub invariant-loop-event : goal.invariant-loop-event
invariant-loop-event l = l.out.items ++ flat_map event_line (events_left l.event-iterator) ≡ l.fn.out.items ++ flat_map event_line (events_left l.fn.events)

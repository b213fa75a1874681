use Rattle.serf_conform.proofs.Names.{map, take, ◌++◌, ◌≡◌, event_said}
use Rattle.serf_conform.proofs.replies.add_events.Given as goal

abbrev pub invariant-loop-event : goal.invariant-loop-event
invariant-loop-event l = l.lines.items ≡ l.fn.lines.items ++ map event_said (take l.event-index l.events)

use Rattle.serf_wire.proofs.Names.{take, ◌++◌, ◌≡◌, flat_map, event_bytes}
use Rattle.serf_wire.proofs.put.write_events.Given as goal

abbrev pub invariant-loop-event : goal.invariant-loop-event
invariant-loop-event l = l.out.items ≡ l.fn.out.items ++ flat_map event_bytes (take l.event-index l.events)

use Rattle.serf_wire.proofs.Names.{false, take, ◌≡◌, list_any, is_long_event}
use Rattle.serf_wire.proofs.long.has_long_event.Given as goal

abbrev pub invariant-loop-event : goal.invariant-loop-event
invariant-loop-event l = list_any is_long_event (take l.event-index l.events) ≡ false

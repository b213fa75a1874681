use Rattle.serf_wire.proofs.Names.{AreItems, event_body}
use Rattle.serf_wire.proofs.fast.slots.skip_events.Given as goal

abbrev pub invariant-events : goal.invariant-events
invariant-events l = AreItems 8 event_body l.counter l.bytes l.rest

use Rattle.serf_agent.proofs.Names.{false, ◌≡◌, events_left, IdealAgent, HasReceived, IsSound, at_time, view_of}
use Rattle.serf_agent.proofs.agent.Agent.receive_events.Given as goal

abbrev pub invariant-loop-event : goal.invariant-loop-event
invariant-loop-event g l = record {
  received : (i : IdealAgent) → IsSound i → l.initial.self.concrete ≡ view_of i → HasReceived i (at_time l.time (events_left l.fn.events)) (at_time l.time (events_left l.event-iterator)) l.initial.out.items l.out.items l.initial.self.device l.self;
  runs : l.self.concrete.snapshot.stopped ≡ false;
  calm : l.self.device.failures ≡ l.initial.self.device.failures;
}

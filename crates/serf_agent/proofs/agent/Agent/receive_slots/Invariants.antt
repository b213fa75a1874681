use Rattle.serf_agent.proofs.Names.{false, ◌≡◌, slots_left, IdealAgent, HasReceived, IsSound, events_of, view_of}
use Rattle.serf_agent.proofs.agent.Agent.receive_slots.Given as goal

abbrev pub invariant-loop-slot : goal.invariant-loop-slot
invariant-loop-slot g l = record {
  received : (i : IdealAgent) → IsSound i → l.initial.self.concrete ≡ view_of i → HasReceived i (events_of (slots_left l.fn.slots)) (events_of (slots_left l.slot-iterator)) l.initial.out.items l.out.items l.initial.self.device l.self;
  runs : l.self.concrete.snapshot.stopped ≡ false;
  calm : l.self.device.failures ≡ l.initial.self.device.failures;
}

use Rattle.serf_agent.proofs.Names.{Ok, [], ap, refl, subst, sym, ◌∙◌, slot_of_view, SlotView, Received, events_of_slot, ConcreteState}
use Rattle.serf_agent.proofs.MergeLaws.{goes-start, received-ignored}
use Rattle.serf_agent.proofs.agent.Agent.receive_slot.Goals as goal

pub returns-in-Empty-clause-received : goal.returns-in-Empty-clause-received
returns-in-Empty-clause-received g c = λ i sound is.
    let before = c.args.out.now.items in
    let runs = sym (ap (λ (s : ConcreteState). s.snapshot.stopped) is) ∙ c.requires in
    subst (λ (s : SlotView). Received i (events_of_slot (slot_of_view s)) before before c.args.self.now.device c.args.self.now (Ok tt)) (sym c.in-Empty.is)
    (received-ignored i [] before before c.args.self.now.device c.args.self.now refl (goes-start i c.args.self.now sound runs is))

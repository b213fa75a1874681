use Rattle.serf_agent.proofs.Names.{ap, refl, sym, ◌∙◌, event_of_view, EventBody, WindowOf, AgentState, ConcreteState}
use Rattle.serf_agent.proofs.MergeLaws.{goes-ignored, received-ignored}
use Rattle.serf_agent.proofs.ViewLaws.{event_observed-view}
use Rattle.serf_agent.proofs.agent.Agent.receive_one.Goals as goal

pub returns-in-Some-clause-received : goal.returns-in-Some-clause-received
returns-in-Some-clause-received g c = λ i sound is.
    let was = ap (λ (a : AgentState). a.concrete) c.self.view_is ∙ is in
    let e = c.observe.ensures in
    let runs = sym (ap (λ (s : ConcreteState). s.snapshot.stopped) is) ∙ c.requires in
    let state = event_observed-view i _ _ c.args.time was e.clock e.minimum (ap (λ (w : WindowOf EventBody). w.slots) e.window) in
    received-ignored i _ c.args.out.now.items _ c.args.self.now.device _ refl
    (goes-ignored i c.args.time (event_of_view c.args.event.now) c.in-Some.field-0 c.args.self.now.device _ sound runs (sym (c.in-Some.ensures.reason i sound is)) state (ap (λ (a : AgentState). a.device) c.self.view_is))

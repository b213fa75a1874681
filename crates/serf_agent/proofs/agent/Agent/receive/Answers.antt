use Rattle.serf_agent.proofs.Names.{Ok, ap, sym, ◌∙◌, event_said, user_event, AgentState}
use Rattle.serf_agent.proofs.StepLaws.{event_decoded}
use Rattle.serf_agent.proofs.TakenPackets.{takes-read}
use Rattle.serf_agent.proofs.agent.Agent.receive.Goals as goal

pub returns-in-Some : goal.returns-in-Some
returns-in-Some g c =
    let runs = sym (ap (λ (a : AgentState). a.concrete.snapshot.stopped) c.self.view_is) ∙ (sym c.is_stopped.ensures ∙ c.if-is_stopped.false) in
    let decodes = event_decoded _ (event_said c.in-Some.event) (rw c.in-Some.is at c.decode_user_event.ensures) in
    takes-read c.args.tags_pass c.args.now c.args.packet.now (Ok (user_event (event_said c.in-Some.event))) c.args.self.now c.receive_event.new.self c.receive_event.result runs decodes c.receive_event.ensures

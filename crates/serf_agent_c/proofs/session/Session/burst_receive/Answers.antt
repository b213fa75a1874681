use Rattle.serf_agent_c.proofs.Names.{Err, Result, [], length, min, refl, ◌++◌, ◌∙◌, ◌∷◌, ◌≡◌, ◌≢◌, IdealAgent, receive, Outcome, ReceiveError, text_of, Received}
use Rattle.serf_agent.specs.declared.outcome.ReceiveError.TheVariants.{OutOfMemory}
use Rattle.serf_agent_c.specs.Bursts.{Receives}
use Rattle.serf_agent_c.proofs.BurstLaws.{extended, receive-plain}
use Rattle.serf_agent_c.proofs.session.Session.burst_receive.Goals as goal

pub returns-clause-extends : goal.returns-clause-extends
returns-clause-extends c = λ calm i calls a before.
    let wanted : c.receive-answer.result ≢ Err OutOfMemory = λ none. calm (c.received_code-code.ensures.memory none) in
    let queued : c.wait.new.self.burst.items ≡ c.args.self.now.burst.items ++ Received c.receive-answer.result ∷ [] = rw (c.wait.ensures.waits calm, c.prepare.ensures.keeps.0) refl in
    let written : c.wait.new.self.written ≡ min c.args.self.now.written (length (text_of c.args.self.now.agent.device)) = c.wait.ensures.rest.2 ∙ c.prepare.ensures.stands.4 in
    extended (λ (r : Result Outcome ReceiveError). Received r) (λ (j : IdealAgent). receive c.args.tags_pass j c.args.now c.args.packet.now) (Receives c.args.tags_pass c.args.now c.args.packet.now) (λ j. refl) (receive-plain c.args.tags_pass c.args.now c.args.packet.now)
    c.args.self.now c.wait.new.self c.receive-answer.result
    (λ j sound same. rw (c.wait.ensures.rest.0, ← c.prepare.ensures.agent) (c.receive-answer.ensures.step j sound (rw (c.prepare.ensures.agent) same) wanted))
    queued written i calls a before

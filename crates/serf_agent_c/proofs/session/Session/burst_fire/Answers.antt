use Rattle.serf_agent_c.proofs.Names.{Err, Result, [], length, min, refl, ◌++◌, ◌∙◌, ◌∷◌, ◌≡◌, ◌≢◌, event_of, fire, IdealAgent, FireError, text_of}
use Rattle.serf_agent.specs.declared.outcome.Fired.{Fired as FiredEvent}
use Rattle.serf_agent.specs.declared.outcome.FireError.TheVariants.{OutOfMemory}
use Rattle.serf_agent_c.specs.declared.burst_outcome.BurstOutcome.TheVariants.{Fired}
use Rattle.serf_agent_c.specs.Bursts.{Fires}
use Rattle.serf_agent_c.proofs.BurstLaws.{extended, fire-plain}
use Rattle.serf_agent_c.proofs.session.Session.burst_fire.Goals as goal

pub returns-clause-extends : goal.returns-clause-extends
returns-clause-extends c = λ calm i calls a before.
    let wanted : c.fire-answer.result ≢ Err OutOfMemory = λ none. calm (c.fired_code-code.ensures.memory none) in
    let queued : c.wait.new.self.burst.items ≡ c.args.self.now.burst.items ++ Fired c.fire-answer.result ∷ [] = rw (c.wait.ensures.waits calm, c.prepare.ensures.keeps.0) refl in
    let written : c.wait.new.self.written ≡ min c.args.self.now.written (length (text_of c.args.self.now.agent.device)) = c.wait.ensures.rest.2 ∙ c.prepare.ensures.stands.4 in
    extended (λ (r : Result FiredEvent FireError). Fired r) (λ (j : IdealAgent). fire j (event_of c.args.name.now c.args.payload.now) c.args.coalesce) (Fires c.args.name.now c.args.payload.now c.args.coalesce) (λ j. refl) (fire-plain (event_of c.args.name.now c.args.payload.now) c.args.coalesce)
    c.args.self.now c.wait.new.self c.fire-answer.result
    (λ j sound same. rw (c.wait.ensures.rest.0, ← c.prepare.ensures.agent) (c.fire-answer.ensures.step j sound (rw (c.prepare.ensures.agent) same) wanted))
    queued written i calls a before

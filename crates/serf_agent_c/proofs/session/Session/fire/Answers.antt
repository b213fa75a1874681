use Rattle.serf_agent_c.proofs.Names.{Err, ◌≡◌, ◌≢◌}
use Rattle.serf_agent.specs.declared.outcome.FireError.TheVariants.{OutOfMemory}
use Rattle.serf_agent_c.proofs.session.Session.fire.Goals as goal

pub returns-clause-takes : goal.returns-clause-takes
returns-clause-takes c = λ ready calm r e i sound same.
    let is : c.fire-answer.result ≡ r = cc (e, c.give.ensures.call_result) in
    let wanted : c.fire-answer.result ≢ Err OutOfMemory = λ none. calm (c.fired_code-code.ensures.memory none) in
    rw (← is, c.give.ensures.rest.0, ← c.begin.ensures.agent) (c.fire-answer.ensures.step i sound (rw (c.begin.ensures.agent) same) wanted)

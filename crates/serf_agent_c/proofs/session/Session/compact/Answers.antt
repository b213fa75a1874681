use Rattle.serf_agent_c.proofs.Names.{Err, ◌≡◌, ◌≢◌, OutOfMemory}
use Rattle.serf_agent_c.proofs.session.Session.compact.Goals as goal

pub returns-clause-takes : goal.returns-clause-takes
returns-clause-takes c = λ ready calm r e i sound same.
    let is : c.compact-answer.result ≡ r = cc (e, c.give.ensures.call_result) in
    let wanted : c.compact-answer.result ≢ Err OutOfMemory = λ none. calm (c.appended_code-code.ensures.memory none) in
    rw (← is, c.give.ensures.rest.0, c.mark_replaced.ensures.rest.0, ← c.begin.ensures.agent) (c.compact-answer.ensures.step i sound (rw (c.begin.ensures.agent) same) wanted)

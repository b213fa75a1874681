use Rattle.serf_agent_c.proofs.Names.{Err, ◌≡◌, ◌≢◌, OutOfMemory}
use Rattle.serf_agent_c.proofs.session.Session.save_member_clock.Goals as goal

pub returns-clause-takes : goal.returns-clause-takes
returns-clause-takes c = λ ready calm r e i sound same.
    let is : c.save_member_clock-answer.result ≡ r = cc (e, c.give.ensures.call_result) in
    let wanted : c.save_member_clock-answer.result ≢ Err OutOfMemory = λ none. calm (c.appended_code-code.ensures.memory none) in
    rw (← is, c.give.ensures.rest.0, ← c.begin.ensures.agent) (c.save_member_clock-answer.ensures.step i sound (rw (c.begin.ensures.agent) same) wanted)

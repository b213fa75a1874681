use Rattle.serf_agent_c.proofs.Names.{Err, rules, ◌≡◌, ◌≢◌, fire_query, Steps, QueryParams, params_of}
use Rattle.serf_agent.specs.declared.outcome.QueryError.TheVariants.{OutOfMemory}
use Rattle.serf_agent_c.proofs.session.Session.query.Goals as goal

pub returns-clause-takes : goal.returns-clause-takes
returns-clause-takes c = λ ready calm r e i sound same.
    let is : c.query-answer.result ≡ r = cc (e, c.give.ensures.call_result, c.take_back.ensures.rest.1) in
    let wanted : c.query-answer.result ≢ Err OutOfMemory = λ none. calm (c.query_fired_code-code.ensures.memory none) in
    let fired_queries : c.params_with-params.result ≡ params_of c.args.self.now.filters c.args.addr.now c.args.params.now = search rules in
    let stepped : (p : QueryParams) → c.params_with-params.result ≡ p → Steps i (fire_query i c.args.now c.args.id c.args.name.now c.args.payload.now p) c.query-answer.result c.begin.new.self.agent.device c.query-answer.new.self = λ p h. rw (← h) (c.query-answer.ensures.step i sound (rw (c.begin.ensures.agent) same) wanted) in
    rw (← is, c.take_back.ensures.rest.0, c.give.ensures.rest.0, ← c.begin.ensures.agent) (stepped _ fired_queries)

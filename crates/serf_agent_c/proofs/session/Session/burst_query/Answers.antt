use Rattle.serf_agent_c.proofs.Names.{Err, Result, [], length, min, refl, rules, ◌++◌, ◌∙◌, ◌∷◌, ◌≡◌, ◌≢◌, IdealAgent, fire_query, Steps, FiredQuery, QueryError, QueryParams, params_of, text_of, QueryFired}
use Rattle.serf_agent.specs.declared.outcome.QueryError.TheVariants.{OutOfMemory}
use Rattle.serf_agent_c.specs.Bursts.{Asks}
use Rattle.serf_agent_c.proofs.BurstLaws.{extended, query-fire-plain}
use Rattle.serf_agent_c.proofs.session.Session.burst_query.Goals as goal

pub returns-clause-extends : goal.returns-clause-extends
returns-clause-extends c = λ calm i calls a before.
    let params = params_of c.args.self.now.filters c.args.addr.now c.args.params.now in
    let wanted : c.query-answer.result ≢ Err OutOfMemory = λ none. calm (c.query_fired_code-code.ensures.memory none) in
    let fired_queries : c.params_with-params.result ≡ params = search rules in
    let queued : c.take_back.new.self.burst.items ≡ c.args.self.now.burst.items ++ QueryFired c.query-answer.result ∷ [] = rw (c.take_back.ensures.rest.6, c.wait.ensures.waits calm, c.prepare.ensures.keeps.0) refl in
    let written : c.take_back.new.self.written ≡ min c.args.self.now.written (length (text_of c.args.self.now.agent.device)) = c.take_back.ensures.rest.2 ∙ c.wait.ensures.rest.2 ∙ c.prepare.ensures.stands.4 in
    extended (λ (r : Result FiredQuery QueryError). QueryFired r) (λ (j : IdealAgent). fire_query j c.args.now c.args.id c.args.name.now c.args.payload.now params) (Asks c.args.now c.args.id c.args.name.now c.args.payload.now params) (λ j. refl) (query-fire-plain c.args.now c.args.id c.args.name.now c.args.payload.now params)
    c.args.self.now c.take_back.new.self c.query-answer.result
    (λ j sound same.
    let stepped : (p : QueryParams) → c.params_with-params.result ≡ p → Steps j (fire_query j c.args.now c.args.id c.args.name.now c.args.payload.now p) c.query-answer.result c.prepare.new.self.agent.device c.query-answer.new.self = λ p h. rw (← h) (c.query-answer.ensures.step j sound (rw (c.prepare.ensures.agent) same) wanted) in
    rw (c.take_back.ensures.rest.0, c.wait.ensures.rest.0, ← c.prepare.ensures.agent) (stepped _ fired_queries))
    queued written i calls a before

use Rattle.serf_agent.proofs.Names.{ap, ℕ, ◌∙◌, ◌≡◌, same_id, track_reason, ConcreteState}
use Rattle.serf_agent.proofs.agent.Agent.query_admission.Goals as goal

pub returns-clause-reason : goal.returns-clause-reason
returns-clause-reason g c = rw (← c.self.view_is) (λ i sound is.
    let per_time : c.self.inside.queries.window.per_time ≡ i.config.per_time = c.self.invariant.query_per_time ∙ ap (λ (s : ConcreteState). s.config.per_time) is in
    c.reason.ensures.reason i.queries i.config.query_buffer i.life i.snapshot.query_clock sound.queries (ap (λ (s : ConcreteState). s.queries) is)
    ∙ ap (λ (k : ℕ). track_reason same_id i.config.query_buffer k i.life i.queries c.args.time c.args.id) per_time)

use Rattle.serf_agent.proofs.Names.{Bool, Some, ap, arith, cond, false, length, nat_lt, sym, ℕ, ◌+◌, ◌∙◌, ◌≡◌, ◌≤◌, le-ltb, event_of, same_texts, track_reason, ConcreteState, Oversize}
use Rattle.serf_agent.proofs.agent.Agent.admission.Goals as goal

pub returns-clause-reason : goal.returns-clause-reason
returns-clause-reason g c = rw (← c.self.view_is) (λ i sound is.
    let what = event_of c.args.name.now c.args.payload.now in
    let short : length c.args.name.now + length c.args.payload.now ≤ 9216 = omega arith in
    let fits : nat_lt 9216 (length c.args.name.now + length c.args.payload.now) ≡ false = le-ltb _ _ short in
    let per_time : c.self.inside.events.window.per_time ≡ i.config.per_time = c.self.invariant.event_per_time ∙ ap (λ (s : ConcreteState). s.config.per_time) is in
    c.reason.ensures.reason i.events i.config.event_buffer i.life i.snapshot.event_clock sound.events (ap (λ (s : ConcreteState). s.events) is)
    ∙ ap (λ (k : ℕ). track_reason same_texts i.config.event_buffer k i.life i.events c.args.time what) per_time
    ∙ sym (ap (λ (b : Bool). cond b (Some Oversize) (track_reason same_texts i.config.event_buffer i.config.per_time i.life i.events c.args.time what)) fits))

use Rattle.serf_world.proofs.Names.{List, [], ap, subst, sym, unwrap_or, ℕ, ◌++◌, ◌∙◌, ◌≡◌, IdealAgent, HasPast, ConcreteState, view_of, Config, line_only, reopened, text_after, Restarted, NodeState}
use Rattle.serf_world.proofs.TurnLaws.{shows-only}
use Rattle.serf_world.proofs.calls.restart_at.Goals as goal

pub returns : goal.returns
returns c = λ m number sent representable is.
    let was = ap (λ (s : NodeState). s.concrete) (c.node.view_is ∙ is) in
    let text : List ℕ = text_after m.agent c.args.tail.now in
    let j : IdealAgent = reopened m.agent text in
    let same : c.as_slice.result.now ≡ text_after m.agent c.args.tail.now =
    c.as_slice.ensures.value ∙ c.in_ok-text.ensures ∙ ap (λ (s : ConcreteState). unwrap_or s.snapshot.durable [] ++ c.args.tail.now) was in
    let config = sym (c.in_ok-config.ensures ∙ c.config.ensures.config ∙ ap (λ (s : ConcreteState). s.config) was) in
    let past = subst (λ (s : Config). HasPast s m.agent c.as_slice.result.now) config (subst (HasPast m.agent.config m.agent) (sym same) (c.representable_agents.ensures.past m c.args.tail.now representable)) in
    let opened : c.in_ok-opened.opened.concrete ≡ view_of (reopened m.agent (text_after m.agent c.args.tail.now)) =
    c.in_ok-opened.ensures.opened m.agent representable.consistent.sound config past ∙ ap (λ (t : List ℕ). view_of (reopened m.agent t)) same in
    let member_clock = c.member_time.ensures ∙ ap (λ (s : ConcreteState). s.member_clock) opened in
    let event_clock = c.event_time.ensures ∙ ap (λ (s : ConcreteState). s.events.clock) opened in
    let query_clock = c.query_time.ensures ∙ ap (λ (s : ConcreteState). s.queries.clock) opened in
    record {
      state = opened;
      shows = shows-only number sent [] c.clear.new.self.items (Restarted j.member_clock j.events.clock j.queries.clock) c.line_only.result c.clear.ensures.items
          (c.line_only.ensures ∙ (λ k. line_only (Restarted (member_clock k) (event_clock k) (query_clock k))));
    }

use Rattle.serf_agent.proofs.Names.{IfSome, List, None, Ok, Option, Some, ap, arith, false, nat_eq, rules, subst, sym, ℕ, ◌<◌, ◌∙◌, ◌≡◌, common_steps, option_copied, response_said, answer_ignore_reason, fired_query_at, is_full, with_fired_query_at, AgentState, ConcreteState, OpenQuery, Outcome}
use Rattle.std.proofs.Common.{All}
use Rattle.serf_agent.specs.Queries.{counted}
use Rattle.serf_agent.proofs.OpenQueryLaws.{set_value-keys}
use Rattle.serf_agent.proofs.StepLaws.{steps-counted}
use Rattle.serf_agent.proofs.agent.Agent.receive_response.Goals as goal

pub invariant_of-self-2 : goal.invariant_of-self-2
invariant_of-self-2 g c =
    let t = c.args.answer.now.time in
    let r = response_said c.args.answer.now in
    let there : fired_query_at t c.self.inside.fired_queries ≡ Some c.in-Some.query.now = sym c.get.ensures ∙ ap option_copied c.in-Some.is in
    let new = subst (λ (o : Option OpenQuery). IfSome o (λ q. c.count.new.self ≡ with_fired_query_at t (counted r q) c.self.inside.fired_queries)) there c.in_ok-count.ensures.ok in
    let built = c.self.invariant in
    record {
      config_sound = built.config_sound;
      event_size = built.event_size;
      event_per_time = built.event_per_time;
      query_size = built.query_size;
      query_per_time = built.query_per_time;
      fired_queries_below = subst (λ (l : List (ℕ × OpenQuery)). All (λ q. q.0 < c.self.inside.queries.clock) l) (sym new) (set_value-keys (λ n. n < c.self.inside.queries.clock) (nat_eq t) c.self.inside.fired_queries (counted r c.in-Some.query.now) built.fired_queries_below);
    }

pub returns : goal.returns
returns g c = record {
  step = λ i sound is _.
      let t = c.args.answer.now.time in
      let r = response_said c.args.answer.now in
      let q = c.in-Some.query.now in
      let was = ap (λ (a : AgentState). a.concrete) c.self.view_is ∙ is in
      let fired_queries = ap (λ (s : ConcreteState). s.fired_queries) was in
      let there : fired_query_at t c.self.inside.fired_queries ≡ Some q = sym c.get.ensures ∙ ap option_copied c.in-Some.is in
      let new = subst (λ (o : Option OpenQuery). IfSome o (λ p. c.count.new.self ≡ with_fired_query_at t (counted r p) c.self.inside.fired_queries)) there c.in_ok-count.ensures.ok in
      let at : fired_query_at t i.fired_queries ≡ Some q = ap (λ (l : List (ℕ × OpenQuery)). fired_query_at t l) (sym fired_queries) ∙ there in
      let none : answer_ignore_reason c.args.now r q ≡ None = sym c.ignore_reason.ensures ∙ c.in-None.is in
      let room : is_full i.config.responders r q ≡ false = ap (λ (s : ConcreteState). is_full s.config.responders r q) (sym was) ∙ sym c.if-is_full.ensures in
      let left = new ∙ ap (λ (l : List (ℕ × OpenQuery)). with_fired_query_at t (counted r q) l) fired_queries in
      steps-counted i c.args.now r q _ c.args.self.now.device _ sound at none room (ap (λ (o : Outcome). Ok o) c.outcome_of.ensures)
      (λ k. record { config = (was k).config; member_clock = (was k).member_clock; events = (was k).events; queries = (was k).queries; snapshot = (was k).snapshot; fired_queries = left k }) (ap (λ (a : AgentState). a.device) c.self.view_is);
  only_new = search rules;
  memory = search rules;
  refused = search rules;
  cause = search rules;
  ack = grind (arith, common_steps);
  response = grind (arith, common_steps);
}

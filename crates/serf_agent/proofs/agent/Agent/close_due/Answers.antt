use Rattle.serf_agent.proofs.Names.{List, ap, filter, length, not, subst, sym, ℕ, ◌<◌, ◌∙◌, All-filter, is_due, AgentState, ConcreteState, OpenQuery}
use Rattle.std.proofs.Common.{All}
use Rattle.serf_agent.proofs.SoundLaws.{sound-closed}
use Rattle.serf_agent.proofs.agent.Agent.close_due.Goals as goal

pub invariant_of-self : goal.invariant_of-self
invariant_of-self g c =
    let built = c.self.invariant in
    record {
      config_sound = built.config_sound;
      event_size = built.event_size;
      event_per_time = built.event_per_time;
      query_size = built.query_size;
      query_per_time = built.query_per_time;
      fired_queries_below = subst (λ (l : List (ℕ × OpenQuery)). All (λ q. q.0 < c.self.inside.queries.clock) l) (sym c.close_due.ensures.left)
          (All-filter (λ (q : ℕ × OpenQuery). not (is_due c.args.now q)) (λ q. q.0 < c.self.inside.queries.clock) c.self.inside.fired_queries built.fired_queries_below);
    }

pub returns-clause-step : goal.returns-clause-step
returns-clause-step g c = λ i sound is.
    let was = ap (λ (a : AgentState). a.concrete) c.self.view_is ∙ is in
    let fired_queries = ap (λ (s : ConcreteState). s.fired_queries) was in
    let left = c.close_due.ensures.left ∙ ap (λ (l : List (ℕ × OpenQuery)). filter (λ q. not (is_due c.args.now q)) l) fired_queries in (
      c.close_due.ensures.count ∙ ap (λ (l : List (ℕ × OpenQuery)). length (filter (is_due c.args.now) l)) fired_queries,
      λ k. record { config = (was k).config; member_clock = (was k).member_clock; events = (was k).events; queries = (was k).queries; snapshot = (was k).snapshot; fired_queries = left k },
      sound-closed c.args.now i sound,
    )

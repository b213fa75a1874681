use Rattle.serf_agent.proofs.Names.{List, subst, sym, ℕ, ◌<◌, All-nil, All, OpenQuery}
use Rattle.serf_agent.proofs.agent.Agent.following.Goals as goal

pub invariant_of-result : goal.invariant_of-result
invariant_of-result g c = record {
  config_sound = c.requires.config_sound;
  event_size = c.requires.event_size;
  event_per_time = c.requires.event_per_time;
  query_size = c.requires.query_size;
  query_per_time = c.requires.query_per_time;
  fired_queries_below = subst (λ (l : List (ℕ × OpenQuery)). All (λ q. q.0 < c.args.queries.clock) l) (sym c.new.ensures) (All-nil (λ q. q.0 < c.args.queries.clock));
}

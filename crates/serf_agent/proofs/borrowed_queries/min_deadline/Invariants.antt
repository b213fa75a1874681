use Rattle.serf_agent.proofs.Names.{map, take, ◌≡◌, lowest}
use Rattle.serf_agent.proofs.borrowed_queries.min_deadline.Given as goal

abbrev pub invariant-loop-query : goal.invariant-loop-query
invariant-loop-query l = l.first ≡ lowest (map (λ q. q.deadline) (take l.query-index l.queries))

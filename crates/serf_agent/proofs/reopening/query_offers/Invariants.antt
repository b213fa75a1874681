use Rattle.serf_agent.proofs.Names.{map, take, ◌≡◌, entries_offered, query_entry}
use Rattle.serf_agent.proofs.reopening.query_offers.Given as goal

abbrev pub invariant-loop-query : goal.invariant-loop-query
invariant-loop-query l = entries_offered (λ id. id) l.offers.items ≡ map query_entry (take l.query-index l.queries)

use Rattle.serf_agent.proofs.Names.{filter, length, ◌≤◌, vec_capacity, is_due}
use Rattle.serf_agent.proofs.TakenQueries.{Taking}
use Rattle.serf_agent.proofs.open_queries.OpenQueries.take_due.Given as goal

abbrev pub invariant-loop-index : goal.invariant-loop-index
invariant-loop-index l = Taking l.fn.now l.fn.self l.self l.closed.items l.index × (length (filter (is_due l.fn.now) l.fn.self) ≤ vec_capacity l.closed)

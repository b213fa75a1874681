use Rattle.serf_agent.proofs.KeepingLaws.{keeping_events, keeping_queries}
use Rattle.serf_agent.proofs.laws.keeping_laws.Goals as goal

pub returns-clause-events : goal.returns-clause-events
returns-clause-events c = keeping_events c.recall_laws.ensures.events

pub returns-clause-queries : goal.returns-clause-queries
returns-clause-queries c = keeping_queries c.recall_laws.ensures.queries

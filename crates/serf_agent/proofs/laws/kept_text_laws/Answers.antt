use Rattle.serf_agent.proofs.KeptTextLaws.{MinLaws, kept_event_laws, kept_query_laws}
use Rattle.serf_agent.proofs.laws.kept_text_laws.Goals as goal

lowest : goal.After-query_line_laws → MinLaws
lowest c = record { grows = c.min_time_laws.ensures.grows; clock_line = c.min_time_laws.ensures.clock_line }

pub returns-clause-events : goal.returns-clause-events
returns-clause-events c = kept_event_laws (lowest c) (record { written = c.event_line_laws.ensures.written; grow = c.event_line_laws.ensures.grow })

pub returns-clause-queries : goal.returns-clause-queries
returns-clause-queries c = kept_query_laws (lowest c) (record { written = c.query_line_laws.ensures.written; grow = c.query_line_laws.ensures.grow })

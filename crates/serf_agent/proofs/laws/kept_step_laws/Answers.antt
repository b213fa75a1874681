use Rattle.serf_agent.proofs.KeptStepLaws as kept
use Rattle.serf_agent.proofs.laws.kept_step_laws.Goals as goal

pub returns : goal.returns
returns c = kept.kept_append_line_laws (record { event_texts = c.kept_text_laws.ensures.events; query_texts = c.kept_text_laws.ensures.queries; clock_line_whole = c.kept_append_line_laws.ensures.clock_line_whole })

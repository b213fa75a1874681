use Rattle.serf_agent.proofs.UnkeptLaws as unkept
use Rattle.serf_agent.proofs.laws.unkept_laws.Goals as goal

pub returns : goal.returns
returns c = unkept.unkept_laws (record {
  event_texts = c.kept_text_laws.ensures.events;
  query_texts = c.kept_text_laws.ensures.queries;
  min_grows = c.min_time_laws.ensures.grows;
  min_clock_line = c.min_time_laws.ensures.clock_line;
  min_sealed = c.min_time_laws.ensures.sealed;
  events_sealed = c.event_line_laws.ensures.sealed;
  queries_sealed = c.query_line_laws.ensures.sealed;
  compacted_whole = c.text_laws.ensures.compacted_whole;
})

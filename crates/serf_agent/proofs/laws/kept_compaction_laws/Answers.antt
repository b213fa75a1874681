use Rattle.serf_agent.proofs.KeptCompactionLaws.{compaction_laws}
use Rattle.serf_agent.proofs.laws.kept_compaction_laws.Goals as goal

pub returns : goal.returns
returns c = compaction_laws (record {
  event_slots = c.slot_laws.ensures.events;
  query_slots = c.slot_laws.ensures.queries;
  event_texts = c.kept_text_laws.ensures.events;
  query_texts = c.kept_text_laws.ensures.queries;
  min_own = c.min_time_laws.ensures.own_line;
  min_grows = c.min_time_laws.ensures.grows;
  quiet = record { event = c.kept_append_line_laws.ensures.event; query = c.kept_append_line_laws.ensures.query; lowest = c.kept_append_line_laws.ensures.lowest; both = c.kept_append_line_laws.ensures.both };
  whole = c.kept_append_line_laws.ensures.whole;
})

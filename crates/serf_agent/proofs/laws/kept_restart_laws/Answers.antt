use Rattle.serf_agent.proofs.KeptRestartLaws as kept
use Rattle.serf_agent.proofs.laws.kept_restart_laws.Goals as goal

pub returns : goal.returns
returns c = kept.kept_restart_laws (record {
  events = c.keeping_laws.ensures.events;
  queries = c.keeping_laws.ensures.queries;
  event_texts = c.kept_text_laws.ensures.events;
  query_texts = c.kept_text_laws.ensures.queries;
  snapshots = c.sound_snapshots.ensures;
  times = c.text_laws.ensures.below;
  events_sealed = c.event_line_laws.ensures.sealed;
  queries_sealed = c.query_line_laws.ensures.sealed;
  min_sealed = c.min_time_laws.ensures.sealed;
})

use Rattle.serf_agent.proofs.laws.sound_snapshots.Goals as goal

pub returns : goal.returns
returns c = record {
  opened = c.snapshot_laws.ensures.opened;
  noted = c.snapshot_laws.ensures.noted;
  append_line_failed = c.snapshot_laws.ensures.append_line_failed;
  compacted = c.snapshot_laws.ensures.compacted;
  compaction_failed = c.snapshot_laws.ensures.compaction_failed;
  kept_appended = c.kept_append_line_laws.ensures.noted;
  kept_compacted = c.kept_append_line_laws.ensures.compacted;
  kept_compaction_failed = c.kept_append_line_laws.ensures.compaction_failed;
  event_quiet = c.kept_append_line_laws.ensures.event;
  query_quiet = c.kept_append_line_laws.ensures.query;
  min_quiet = c.kept_append_line_laws.ensures.lowest;
  both_quiet = c.kept_append_line_laws.ensures.both;
}

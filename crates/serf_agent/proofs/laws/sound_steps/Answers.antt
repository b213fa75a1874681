use Rattle.serf_agent.proofs.SoundLaws.{admission-new, query_admission-new, sound-compact, sound-event_entered, sound-event_observed, sound-heard, sound-joined, sound-append_line_failed, sound-query_opened, sound-query_entered, sound-query_observed, sound-restarted, sound-saved, sound-unopened, sound-with_config}
use Rattle.serf_agent.proofs.laws.sound_steps.Goals as goal

pub returns-clause-sound : goal.returns-clause-sound
returns-clause-sound c = record {
  fails_append_line = sound-append_line_failed c.sound_snapshots.ensures;
  observes_event = sound-event_observed;
  enters_event = sound-event_entered c.sound_snapshots.ensures;
  observes_query = sound-query_observed;
  enters_query = sound-query_entered c.sound_snapshots.ensures;
  asks_query = sound-query_opened c.sound_snapshots.ensures;
  joins = sound-joined;
  hears = sound-heard c.sound_snapshots.ensures;
  saves = sound-saved c.sound_snapshots.ensures;
  compacts = sound-compact c.sound_snapshots.ensures;
  restarts = sound-restarted c.sound_snapshots.ensures c.kept_restart_laws.ensures;
  sets = sound-with_config;
  begins = sound-unopened c.sound_snapshots.ensures;
}

pub returns-clause-admits : goal.returns-clause-admits
returns-clause-admits c = record { event_new = admission-new; query_new = query_admission-new }

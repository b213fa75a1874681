-- What an opening results in if it keeps events and its text has everything that was entered.
use Rattle.std.specs.Prelude.{◌≡◌, ◌+◌, ◌<◌, ℕ, List, All, Contains}
use Rattle.serf_lamport.specs.Clock.{max_clock}
use Rattle.serf_window.specs.Queries.{same_id}
use Rattle.serf_window.specs.Texts.{same_texts}
use Rattle.serf_snapshot.specs.declared.kind.ClockKind.TheVariants as kinds
use Rattle.serf_snapshot.specs.Clocks.{sealed}
use Rattle.serf_snapshot.specs.Device.{Device}
use Rattle.serf_snapshot.specs.EventLines.{min_in}
use Rattle.serf_snapshot.specs.AppendsLine.{SnapshotView, opened}
use Rattle.serf_agent.specs.Ideal.{IdealAgent}
use Rattle.serf_agent.specs.Keeping.{entries_in, taken_back}
use Rattle.serf_agent.specs.KeptRestart.{HasKept, events_reached, queries_reached, restarted_kept}
use Rattle.serf_agent.specs.Restart.{IsInText}
use Rattle.serf_agent.specs.Sound.{IsSound}
use Rattle.serf_agent.specs.Tracks.{of_life}

pub record KeptRestartLaws : Type 0 where
  -- a sound agent is sound in its next life
  pub sound : (i : IdealAgent) (text : List ℕ) (d : Device) → IsSound i → IsInText i text → HasKept i text → (opened text d).member_clock < max_clock → IsSound (restarted_kept text (opened text d) i)
  -- after a torn end of the text was ended, the durable text still has everything that was entered
  pub kept : (i : IdealAgent) (text : List ℕ) → (d : Device) → HasKept i text → HasKept (restarted_kept text (opened text d) i) (sealed text)
  -- what the new life has entered is what was restored, so its buffers are made from that
  pub events_view : (i : IdealAgent) (text : List ℕ) (s : SnapshotView) → IsSound i
      → of_life (i.life + 1) (restarted_kept text s i).events.history ≡ (taken_back same_texts i.config.event_buffer i.config.per_time s.event_clock (min_in kinds.Event text) (events_reached i.config s.event_clock text)).entries
  pub queries_view : (i : IdealAgent) (text : List ℕ) (s : SnapshotView) → IsSound i
      → of_life (i.life + 1) (restarted_kept text s i).queries.history ≡ (taken_back same_id i.config.query_buffer i.config.per_time s.query_clock (min_in kinds.Query text) (queries_reached i.config s.query_clock text)).entries
  -- nothing that was entered is forgotten
  pub events_grown : (i : IdealAgent) (text : List ℕ) (s : SnapshotView) → All (Contains (entries_in (restarted_kept text s i).events.history)) (entries_in i.events.history)
  pub queries_grown : (i : IdealAgent) (text : List ℕ) (s : SnapshotView) → All (Contains (entries_in (restarted_kept text s i).queries.history)) (entries_in i.queries.history)

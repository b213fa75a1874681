-- What serf_snapshot promises about snapshots, as far as an agent's soundness depends on it: what a snapshot records of
-- its last lines is what its sink holds.
use Rattle.std.specs.Prelude.{◌≡◌, ◌<◌, ◌++◌, ℕ, List, Option, false}
use Rattle.serf_lamport.specs.Clock.{max_clock}
use Rattle.serf_snapshot.specs.declared.kind.ClockKind.{ClockKind}
use Rattle.serf_snapshot.specs.Device.{Device}
use Rattle.serf_snapshot.specs.EventLines.{event_line, min_line, query_line}
use Rattle.serf_snapshot.specs.KeptAppends.{SaysNoClock, kept_compaction_of, kept_appended as kept_append_line}
use Rattle.serf_snapshot.specs.AppendsLine.{Failed, IsSnapshotSound, KeepsEither, KeepsPart, Kept, SnapshotView, compacted as compaction, compaction_of, noted as append_line, opened as opening, text_replaced, written}

pub record SnapshotLaws : Type 0 where
  pub opened : (text : List ℕ) (d : Device) → IsSnapshotSound (opening text d)
  pub noted : (k : ClockKind) (s : SnapshotView) (t : ℕ) → IsSnapshotSound s → s.stopped ≡ false → t < max_clock → IsSnapshotSound (append_line k t s Kept)
  pub append_line_failed : (k : ClockKind) (s : SnapshotView) (t : ℕ) (line : List ℕ) (durable : Option (List ℕ)) → IsSnapshotSound s → KeepsPart s.durable line durable
      → IsSnapshotSound (written k t s (Failed durable))
  pub compacted : (s : SnapshotView) → IsSnapshotSound s → IsSnapshotSound (compaction s Kept)
  pub compaction_failed : (s : SnapshotView) (durable : Option (List ℕ)) → IsSnapshotSound s → KeepsEither s.durable (compaction_of s) durable
      → IsSnapshotSound (compaction s (Failed durable))
  -- the snapshot stays sound if a line is written next to its clock line, and this line contains no clock line
  pub kept_appended : (k : ClockKind) (s : SnapshotView) (t : ℕ) (line : List ℕ) → IsSnapshotSound s → s.stopped ≡ false → t < max_clock → SaysNoClock line → IsSnapshotSound (kept_append_line k t line s Kept)
  pub kept_compacted : (s : SnapshotView) (lines : List ℕ) → IsSnapshotSound s → SaysNoClock lines → IsSnapshotSound (text_replaced (kept_compaction_of lines s) s Kept)
  pub kept_compaction_failed : (s : SnapshotView) (lines : List ℕ) (durable : Option (List ℕ)) → IsSnapshotSound s → SaysNoClock lines → KeepsEither s.durable (kept_compaction_of lines s) durable
      → IsSnapshotSound (text_replaced (kept_compaction_of lines s) s (Failed durable))
  -- the lines of events, of queries and of minimum times contain no clock line
  pub event_quiet : (t : ℕ) (name payload : List ℕ) → SaysNoClock (event_line t name payload)
  pub query_quiet : (t id : ℕ) → SaysNoClock (query_line t id)
  pub min_quiet : (k : ClockKind) (t : ℕ) → SaysNoClock (min_line k t)
  pub both_quiet : (a b : List ℕ) → SaysNoClock a → SaysNoClock b → SaysNoClock (a ++ b)

-- The lines that an appended line or a compaction writes in addition to the clock lines, if there are any: an agent
-- that keeps its events writes them, and every other agent writes none.
use Rattle.std.specs.Prelude.{ℕ, nat_le, if◌then◌else◌, List, Option, Some, None}
use Rattle.serf_snapshot.specs.declared.kind.ClockKind.{ClockKind}
use Rattle.serf_snapshot.specs.KeptAppends.{SaysNoClock}
pub use Rattle.serf_snapshot.specs.KeptAppends.{MayAppendLine, bytes_with, device_appended, appended_with, text_with}
use Rattle.serf_snapshot.specs.AppendsLine.{SnapshotView, Writing, Kept, last_line, will_store, will_write}

-- what a sink with a plan does when a line is appended
abbrev pub will_append_line : ClockKind → ℕ → Option (List ℕ) → SnapshotView → Writing
will_append_line kind t None s = if nat_le t (last_line kind s) then Kept else will_write s
will_append_line kind t (Some line) s = will_write s

-- what a sink with a plan does with the text that a compaction is to leave
abbrev pub will_replace_with : Option (List ℕ) → SnapshotView → Writing
will_replace_with lines s = will_store (text_with lines s) s s.plan

-- the lines contain no clock line
abbrev pub AreQuiet : Option (List ℕ) → Type 0
AreQuiet None = Unit {0}
AreQuiet (Some lines) = SaysNoClock lines

-- The appended lines and the compactions of an agent that keeps its events: those of every agent, plus the lines of
-- what it keeps.
use Rattle.std.specs.Prelude.{◌≡◌, ℕ, max, nat_le, ◌==◌, true, not, Bool, if◌then◌else◌, List, [], ◌∷◌, ◌++◌, MatchBool, Option, Some, None}
use Rattle.serf_snapshot.specs.declared.kind.ClockKind.{ClockKind}
use Rattle.serf_snapshot.specs.declared.kind.ClockKind.TheVariants.{Member, Event, Query}
use Rattle.serf_snapshot.specs.Clocks.{clock_line, is_empty, is_whole, last_clock, line_above_zero}
use Rattle.serf_snapshot.specs.Device.{Device, appended, flushed}
use Rattle.serf_snapshot.specs.EventLines.{kept_clock_line}
use Rattle.serf_snapshot.specs.AppendsLine.{SnapshotView, Writing, Kept, MayWrite, bytes_written, compaction_of, last_line, noted}

-- What is appended for a time if this is the last line of its kind: the clock line, with a zero in front of the number,
-- if the time is above the last line; and then the event's or the query's own line.
abbrev pub kept_bytes : ClockKind → ℕ → List ℕ → ℕ → List ℕ
kept_bytes kind t line last = (if nat_le t last then [] else kept_clock_line kind t) ++ line

-- the snapshot after a time was written with its own line, which is always written
abbrev pub kept_appended : ClockKind → ℕ → List ℕ → SnapshotView → Writing → SnapshotView
kept_appended kind t line s w = bytes_written kind (max (last_line kind s) t) (kept_bytes kind t line (last_line kind s)) s w

-- The text of a compaction that keeps these lines: the lines, and then the last line of each clock. The clock lines of
-- events and of queries have a zero in front of the number.
abbrev pub kept_line_above_zero : ClockKind → ℕ → List ℕ
kept_line_above_zero kind time = if time == 0 then [] else kept_clock_line kind time

abbrev pub kept_compaction_of : List ℕ → SnapshotView → List ℕ
kept_compaction_of lines s = lines ++ line_above_zero Member s.member_clock ++ kept_line_above_zero Event s.event_clock ++ kept_line_above_zero Query s.query_clock

-- the lines that `append_line` or `compact` is called with; an empty list means none
abbrev pub lines_given : List ℕ → Option (List ℕ)
lines_given [] = None
lines_given (b ∷ bs) = Some (b ∷ bs)

-- the snapshot after a time was written, with its own line if it has one
abbrev pub appended_with : ClockKind → ℕ → Option (List ℕ) → SnapshotView → Writing → SnapshotView
appended_with kind t None s w = noted kind t s w
appended_with kind t (Some line) s w = kept_appended kind t line s w

-- what is appended, if anything is
abbrev pub bytes_with : ClockKind → ℕ → Option (List ℕ) → SnapshotView → List ℕ
bytes_with kind t None s = clock_line kind t
bytes_with kind t (Some line) s = kept_bytes kind t line (last_line kind s)

-- What the sink may do when a time is written. If only a clock line could be written, and the last line has this time or
-- a later one, nothing is written, so nothing can fail.
abbrev pub MayAppendLine : ClockKind → ℕ → Option (List ℕ) → SnapshotView → Writing → Type 0
MayAppendLine kind t None s w = MatchBool (nat_le t (last_line kind s)) (w ≡ Kept) (MayWrite s (clock_line kind t) w)
MayAppendLine kind t (Some line) s w = MayWrite s (kept_bytes kind t line (last_line kind s)) w

-- The device after a time was written: its bytes are appended and flushed, and nothing else is. If only a clock line
-- could be written, and the last line of the kind has this time or a later one, the device isn't called.
abbrev pub device_appended : ClockKind → ℕ → Option (List ℕ) → SnapshotView → Device → Device
device_appended kind t None s d = if nat_le t (last_line kind s) then d else flushed (appended (clock_line kind t) d)
device_appended kind t (Some line) s d = flushed (appended (kept_bytes kind t line (last_line kind s)) d)

-- What is appended, part by part: the number of the clock line has a zero in front if another line follows it.
abbrev pub append_line_bytes : ClockKind → ℕ → List ℕ → ℕ → List ℕ
append_line_bytes kind t own last = (if nat_le t last then [] else if is_empty own then clock_line kind t else kept_clock_line kind t) ++ own

-- the text that a compaction should leave
abbrev pub text_with : Option (List ℕ) → SnapshotView → List ℕ
text_with None s = compaction_of s
text_with (Some lines) s = kept_compaction_of lines s

-- That text part by part: after kept lines, the clock lines of events and of queries have a zero in front of the
-- number.
abbrev pub time_above_zero : Bool → ClockKind → ℕ → List ℕ
time_above_zero kept kind t = if kept then kept_line_above_zero kind t else line_above_zero kind t

abbrev pub compaction_bytes : List ℕ → ℕ → ℕ → ℕ → List ℕ
compaction_bytes lines m e q = lines ++ line_above_zero Member m ++ time_above_zero (not (is_empty lines)) Event e ++ time_above_zero (not (is_empty lines)) Query q

-- Whole lines that contain no clock line.
pub record SaysNoClock (lines : List ℕ) : Type 0 where
  pub whole : is_whole lines ≡ true
  pub clocks : (kind : ClockKind) → last_clock kind lines ≡ 0

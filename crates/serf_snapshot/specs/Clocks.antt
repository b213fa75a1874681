-- Snapshot text: its lines, and the largest value of the clock lines of a kind. (`snapshot.go`, the lines `clock: `,
-- `event-clock: ` and `query-clock: `, which `updateClock`, `processUserEvent` and `processQuery` write and `replay`
-- reads. In Serf the last line of a kind counts, and here the largest.)
use Rattle.std.specs.Prelude.{ℕ, ◌+◌, ◌-◌, ◌*◌, max, Bool, true, false, ◌&&◌, not, if◌then◌else◌, nat_lt, ◌==◌, Option, Some, None, List, [], ◌∷◌, ◌++◌, codes, decimal}
use Rattle.std.specs.Str.{all_ascii_digits}
use Rattle.serf_lamport.specs.Clock.{max_clock}
use Rattle.serf_snapshot.specs.declared.kind.ClockKind.{ClockKind}
use Rattle.serf_snapshot.specs.declared.kind.ClockKind.TheVariants.{Member, Event, Query}

-- the prefix with which a clock line of the kind begins
abbrev pub prefix_of : ClockKind → List ℕ
prefix_of Member = codes "clock: "
prefix_of Event = codes "event-clock: "
prefix_of Query = codes "query-clock: "

-- the value of a kind, out of the values of the three kinds
abbrev pub of_kind : ClockKind → ℕ → ℕ → ℕ → ℕ
of_kind Member member_clock event_clock query_clock = member_clock
of_kind Event member_clock event_clock query_clock = event_clock
of_kind Query member_clock event_clock query_clock = query_clock

-- the value of the kind `at`, after the value of `kind` was set to this time
abbrev pub once_set : ClockKind → ClockKind → ℕ → ℕ → ℕ
once_set Member Member time value = time
once_set Event Event time value = time
once_set Query Query time value = time
once_set at kind time value = value

-- a byte in front of the first line; bytes without a newline after them aren't a line
abbrev pub onto_line : ℕ → List (List ℕ) → List (List ℕ)
onto_line b [] = []
onto_line b (line ∷ lines) = (b ∷ line) ∷ lines

-- the lines of a text without their newlines; bytes after the last newline aren't a line
abbrev pub lines_of : List ℕ → List (List ℕ)
lines_of [] = []
lines_of (b ∷ bs) = if b == 10 then [] ∷ lines_of bs else onto_line b (lines_of bs)

-- the bytes after a prefix, or none if the text doesn't begin with it
abbrev pub following : List ℕ → List ℕ → Option (List ℕ)
following [] bs = Some bs
following (p ∷ ps) [] = None
following (p ∷ ps) (b ∷ bs) = if p == b then following ps bs else None

-- the number that n becomes when these digits are written after it
abbrev pub read_on : ℕ → List ℕ → ℕ
read_on n [] = n
read_on n (d ∷ ds) = read_on (10 * n + (d - 48)) ds

abbrev pub is_empty : List ℕ → Bool
is_empty [] = true
is_empty (b ∷ bs) = false

-- one or more digits, with a value that is a time
abbrev pub is_time_text : List ℕ → Bool
is_time_text ds = not (is_empty ds) && (all_ascii_digits ds && nat_lt (read_on 0 ds) max_clock)

-- the value of what follows the prefix; 0 if it isn't a time
abbrev pub time_text_value : Option (List ℕ) → ℕ
time_text_value None = 0
time_text_value (Some ds) = if is_time_text ds then read_on 0 ds else 0

-- the value of a line as a clock line of the kind; 0 if it isn't one
abbrev pub line_value : ClockKind → List ℕ → ℕ
line_value kind line = time_text_value (following (prefix_of kind) line)

-- the largest value of these lines
abbrev pub largest : ClockKind → List (List ℕ) → ℕ
largest kind [] = 0
largest kind (line ∷ lines) = max (line_value kind line) (largest kind lines)

-- the clock of a kind in a text: the largest of its clock lines, or 0 if there is none
abbrev pub last_clock : ClockKind → List ℕ → ℕ
last_clock kind text = largest kind (lines_of text)

-- the line that is written for a time (`snapshot.go`, `updateClock`: `clock: %d` and a newline)
abbrev pub clock_line : ClockKind → ℕ → List ℕ
clock_line kind time = prefix_of kind ++ decimal time ++ 10 ∷ []

-- a text that is empty or ends in a newline
abbrev pub is_whole : List ℕ → Bool
is_whole [] = true
is_whole (b ∷ bs) = if is_empty bs then b == 10 else is_whole bs

-- the bytes that end a torn last line, so that it isn't a clock line, whatever was in it
abbrev pub seal_line : List ℕ
seal_line = 35 ∷ 10 ∷ []

-- a text after its last line was ended in this way, if it was torn
abbrev pub sealed : List ℕ → List ℕ
sealed text = if is_whole text then text else text ++ seal_line

-- the line of a time, and nothing for 0
abbrev pub line_above_zero : ClockKind → ℕ → List ℕ
line_above_zero kind time = if time == 0 then [] else clock_line kind time

-- The text that a compaction leaves: the last line of each kind of clock that has one, and nothing else. (Serf's
-- `snapshot.go`, `compact`, first writes a line for each alive member, and also writes a clock of 0. An agent here
-- keeps no members.)
abbrev pub compacted_text : ℕ → ℕ → ℕ → List ℕ
compacted_text member_clock event_clock query_clock = line_above_zero Member member_clock ++ line_above_zero Event event_clock ++ line_above_zero Query query_clock

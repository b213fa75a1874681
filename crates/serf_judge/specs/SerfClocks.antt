-- The clocks that stock Serf restores from a snapshot (`snapshot.go`, `replay`): the value of the last line of each
-- kind.
use Rattle.std.specs.Prelude.{ℕ, ◌&&◌, nat_eq, nat_lt, Bool, not, if◌then◌else◌, List, [], ◌∷◌, length, drop, Option, None, unwrap_or}
use Rattle.std.specs.List.{starts_with}
use Rattle.serf_snapshot.specs.Clocks.{prefix_of}
use Rattle.serf_snapshot.specs.declared.kind.ClockKind.{ClockKind}
use Rattle.serf_text.specs.Lines.{lines_of}
use Rattle.serf_text.specs.Words.{number_of}
use Rattle.serf_judge.specs.Kept.{is_leave}

-- the number below 2^64 that follows a prefix in a line, if the line has both
abbrev pub number_after : List ℕ → List ℕ → Option ℕ
number_after prefix line = if starts_with nat_eq line prefix then number_of (drop (length prefix) line) else None

-- A clock after one more line: the line's value if it is a clock line of this kind. A line `leave` resets the clock to
-- 0, unless Serf is started with `-rejoin`.
abbrev pub clock_after : Bool → List ℕ → ℕ → List ℕ → ℕ
clock_after rejoins prefix clock line = if not rejoins && is_leave line then 0 else unwrap_or (number_after prefix line) clock

-- and after these lines, the last of which doesn't end with a newline, so that it doesn't count
abbrev pub clock_after_all : Bool → List ℕ → ℕ → List (List ℕ) → ℕ
clock_after_all rejoins prefix clock [] = clock
clock_after_all rejoins prefix clock (line ∷ rest) = clock_after_all rejoins prefix (if nat_lt 0 (length rest) then clock_after rejoins prefix clock line else clock) rest

abbrev pub serf_clock : Bool → ClockKind → List ℕ → ℕ
serf_clock rejoins kind text = clock_after_all rejoins (prefix_of kind) 0 (lines_of text)

-- What two logs say, one after the other.
use Rattle.std.specs.Prelude.{ℕ, ◌+◌, ◌-◌, ◌^◌, ◌++◌, min, List, map}
use Rattle.serf_judge.specs.Said.{LogView}

-- the number of a line after so many others, with what it says; the number stops at 2^64 - 1
abbrev pub moved : {X : Type 0} → ℕ → ℕ × X → ℕ × X
moved lines said = (min (said.0 + lines) (2 ^ 64 - 1), said.1)

abbrev pub moved_on : {X : Type 0} → ℕ → List (ℕ × X) → List (ℕ × X)
moved_on lines said = map (moved lines) said

-- the lines of the first log, followed by those of the other
abbrev pub joined_logs : LogView → LogView → LogView
joined_logs x y = record {
  fired = x.fired ++ moved_on x.lines y.fired;
  events = x.events ++ moved_on x.lines y.events;
  queries = x.queries ++ moved_on x.lines y.queries;
  runs = x.runs ++ moved_on x.lines y.runs;
  bad = x.bad ++ moved_on x.lines y.bad;
  dates = x.dates ++ moved_on x.lines y.dates;
  lines = min (x.lines + y.lines) (2 ^ 64 - 1);
}

-- The text of a snapshot's clocks.
use Rattle.std.specs.Prelude.{ℕ, ◌++◌, List, codes}
use Rattle.serf_snapshot.specs.declared.clocks.Clocks.{Clocks}
use Rattle.serf_snapshot.specs.declared.kind.ClockKind.{ClockKind}
use Rattle.serf_snapshot.specs.declared.kind.ClockKind.TheVariants.{Member, Event, Query}
use Rattle.serf_text.specs.TextParts.{number_line}

-- the words of Serf's snapshot lines, without the colon (snapshot.go)
abbrev pub clock_word : ClockKind → List ℕ
clock_word Member = codes "clock"
clock_word Event = codes "event-clock"
clock_word Query = codes "query-clock"

unfoldable pub clock_entry : ClockKind → ℕ → List ℕ
clock_entry kind time = number_line (clock_word kind) time

-- a line for each clock
abbrev pub clock_entries : Clocks → List ℕ
clock_entries clocks = clock_entry Member clocks.member_clock ++ clock_entry Event clocks.event_clock ++ clock_entry Query clocks.query_clock

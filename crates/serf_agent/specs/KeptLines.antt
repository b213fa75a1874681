-- The lines that a compaction of an agent that keeps its events writes in addition to the clock lines: for events and
-- for queries, the minimum time that is still accepted, and what the buffer holds from that time on.
use Rattle.std.specs.Prelude.{ℕ, ◌+◌, ◌-◌, ◌<◌, ◌≤◌, max, nat_lt, if◌then◌else◌, List, [], ◌++◌, map, All}
use Rattle.std.specs.List.{flat_map}
use Rattle.serf_lamport.specs.Clock.{max_clock}
use Rattle.serf_window.specs.Window.{SlotOf, TimedEntry}
use Rattle.serf_snapshot.specs.declared.kind.ClockKind.{ClockKind}
use Rattle.serf_snapshot.specs.declared.kind.ClockKind.TheVariants as kinds
use Rattle.serf_snapshot.specs.EventLines.{min_line, query_line}
use Rattle.serf_snapshot.specs.KeptAppends.{SaysNoClock, kept_compaction_of}
use Rattle.serf_snapshot.specs.AppendsLine.{AreTimes}
use Rattle.serf_agent.specs.Ideal.{IdealAgent, Past}
use Rattle.serf_agent.specs.KeptRestart.{HasKept}
use Rattle.serf_agent.specs.KeptTexts.{IsIdWritable, IsWritable, line_of_event}
use Rattle.serf_agent.specs.Sound.{IsSound}
use Rattle.serf_agent.specs.Tracks.{ConcreteTrack}
use Rattle.serf_agent.specs.View.{ConcreteState, view_of}

-- The minimum time that a compaction writes for a track. Anything below it is no longer accepted, or is too old when
-- the next life begins, at one above the last line. A clock that was only received from another agent doesn't count,
-- because no line contains it.
abbrev pub min_written : ℕ → ℕ → ℕ → ℕ
min_written n last minimum = max minimum ((last + 1) - n)

-- what slots hold from a time on, in the order of the slots
abbrev pub held_in : {K : Type 0} → ℕ → SlotOf K → List (TimedEntry K)
held_in lowest slot = if nat_lt slot.time lowest then [] else map (λ key. record { time = slot.time; key = key }) slot.held

abbrev pub held_from : {K : Type 0} → ℕ → List (SlotOf K) → List (TimedEntry K)
held_from lowest slots = flat_map (held_in lowest) slots

-- the lines of these entries, one after another
abbrev pub lines_written : {K : Type 0} → (ℕ → K → List ℕ) → List (TimedEntry K) → List ℕ
lines_written line entries = flat_map (λ e. line e.time e.key) entries

-- the lines of a borrowed slot, which is its time and what it holds, from a time on
abbrev pub lines_of_slot : {K : Type 0} → (ℕ → K → List ℕ) → ℕ → ℕ × List K → List ℕ
lines_of_slot line lowest slot = if nat_lt slot.0 lowest then [] else flat_map (line slot.0) slot.1

-- the lines of what is stored of a track whose buffer has n slots, if this is the last line of its kind
abbrev pub stored_lines : {K : Type 0} → ClockKind → (ℕ → K → List ℕ) → ℕ → ℕ → ConcreteTrack K → List ℕ
stored_lines kind line n last track =
    let lowest = min_written n last track.minimum in
    min_line kind lowest ++ lines_written line (held_from lowest track.slots)

-- the lines of an agent, from what it stores
abbrev pub kept_lines : ConcreteState → List ℕ
kept_lines a =
    stored_lines kinds.Event line_of_event a.config.event_buffer a.snapshot.event_clock a.events
    ++ stored_lines kinds.Query query_line a.config.query_buffer a.snapshot.query_clock a.queries

-- what was entered can be written in a line: its time is a time above 0, and its name and payload are bytes
abbrev pub AreWritable : {K : Type 0} → (K → Type 0) → List (Past K) → Type 0
AreWritable Written history = All (λ p. (0 < p.entry.time) × (p.entry.time < max_clock) × Written p.entry.key) history

pub record CompactionLaws : Type 0 where
  -- the text of a compaction has everything that was entered
  pub keeps : (i : IdealAgent) → IsSound i → 0 < i.config.event_buffer → 0 < i.config.query_buffer → AreTimes i.snapshot → i.events.minimum ≤ max_clock → i.queries.minimum ≤ max_clock
      → AreWritable IsWritable i.events.history → AreWritable IsIdWritable i.queries.history
      → HasKept i (kept_compaction_of (kept_lines (view_of i)) i.snapshot)
  -- the lines of whatever is stored contain no clock line
  pub says_no_clock : (a : ConcreteState) → SaysNoClock (kept_lines a)

-- The lines that C gets: what became of the events that its host was handed.
use Rattle.std.specs.Prelude.{◌≡◌, ◌≢◌, ◌<◌, ℕ, List, length}
use Rattle.serf_lamport.specs.Clock.{max_clock}
use Rattle.serf_snapshot.specs.Handlers.{begun_line, done_line, done_up_to_line, open_line}
use Rattle.serf_agent_c.specs.declared.code.Code.{Code}
use Rattle.serf_agent_c.specs.declared.code.Code.TheVariants.{Done, OutOfMemory, Exhausted}
use Rattle.serf_agent_c.specs.declared.handler_lines.EventState.{EventState}
use Rattle.serf_agent_c.specs.declared.handler_lines.EventState.TheVariants as states
use Rattle.serf_agent_c.specs.Texts.{copied}

-- the line that says this of an event, or of all events up to its time
abbrev pub line_of : EventState → ℕ → List ℕ → List ℕ → List ℕ
line_of states.Open time name payload = open_line time name payload
line_of states.Begun time name payload = begun_line time name payload
line_of states.Done time name payload = done_line time name payload
line_of states.DoneUpTo time name payload = done_up_to_line time

-- A line about this time is written, unless the time is 2^64 - 1, which is not a valid time, or memory runs out. In these
-- cases, nothing is written.
pub record WritesLine (time : ℕ) (line : List ℕ) (len_old len_new : ℕ) (old new : List ℕ) (code : Code) : Type 0 where
  pub exhausted : time ≡ max_clock → code ≡ Exhausted
  pub memory : time < max_clock → code ≢ Done → code ≡ OutOfMemory
  pub writes : code ≡ Done → (len_new ≡ length line) × (new ≡ copied line old)
  pub same : code ≢ Done → (len_new ≡ len_old) × (new ≡ old)

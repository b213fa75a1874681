-- How the run of a schedule, line by line, stops before the end of the schedule.
use Rattle.std.specs.Prelude.{◌≡◌, ℕ, ◌++◌, List, Option, Ok}
use Rattle.serf_text.specs.declared.cause.Cause.{Cause}
use Rattle.serf_text.specs.declared.stream_error.StreamError.{StreamError}
use Rattle.serf_text.specs.Lines.{lines_of}
use Rattle.serf_text.specs.Streams.{IsCauseBy}
use Rattle.serf_schedule.specs.Halted.{Halts}
use Rattle.serf_schedule.specs.Line.{Parsed}
use Rattle.serf_schedule.specs.Running.{is_refused_by}
use Rattle.serf_schedule.specs.Schedule.{schedule_in}
use Rattle.serf_replay.specs.Turns.{run_text}

-- the text that was written is the trace of the lines that were done
abbrev pub IsHalted : StreamError Cause → List ℕ → Option (List ℕ) → Option (List ℕ) → Type 0
IsHalted error bytes first now = Halts (λ said text. text ≡ run_text said) error bytes first now

-- The first lines in these bytes were done, and they are a schedule. Nothing was written.
pub record IsHaltedAt (error : StreamError Cause) (bytes : List ℕ) : Type 0 where
  pub lines : List (List ℕ)
  pub left : List (List ℕ)
  pub splits : lines_of bytes ≡ lines ++ left
  pub schedule : Parsed
  pub reads : schedule_in lines ≡ Ok schedule
  pub cause : IsCauseBy is_refused_by error lines left

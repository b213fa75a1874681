-- How the run of a schedule, line by line, stops before the end of the schedule.
use Rattle.std.specs.Prelude.{◌≡◌, ℕ, ◌++◌, List, Option, Ok}
use Rattle.serf_text.specs.declared.cause.Cause.{Cause}
use Rattle.serf_text.specs.declared.stream_error.StreamError.{StreamError}
use Rattle.serf_text.specs.Lines.{lines_of}
use Rattle.serf_text.specs.Streams.{IsCauseBy, WritesUpTo}
use Rattle.serf_schedule.specs.Line.{Parsed}
use Rattle.serf_schedule.specs.Running.{is_refused_by}
use Rattle.serf_schedule.specs.Schedule.{schedule_in}

-- The first lines in these bytes were done. They are a schedule, and the text about it was written: all of this text,
-- or a prefix of it if a write failed. If a line isn't valid, it is the first one that isn't, whatever follows it, so
-- that the whole text is refused because of this line.
pub record Halts (told : Parsed → List ℕ → Type 0) (error : StreamError Cause) (bytes : List ℕ) (first now : Option (List ℕ)) : Type 0 where
  pub lines : List (List ℕ)
  pub left : List (List ℕ)
  pub splits : lines_of bytes ≡ lines ++ left
  pub schedule : Parsed
  pub reads : schedule_in lines ≡ Ok schedule
  pub text : List ℕ
  pub tells : told schedule text
  pub written : WritesUpTo error first now text
  pub cause : IsCauseBy is_refused_by error lines left

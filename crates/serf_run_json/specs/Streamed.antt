-- A schedule in which the objects of each line are written as soon as the line is read.
use Rattle.std.specs.Prelude.{◌≡◌, ℕ, ◌++◌, Bool, List, Option, Ok}
use Rattle.serf_text.specs.declared.cause.Cause.{Cause}
use Rattle.serf_text.specs.declared.stream_error.StreamError.{StreamError}
use Rattle.serf_text.specs.Lines.{lines_of}
use Rattle.serf_text.specs.Streams.{WritesUpTo}
use Rattle.serf_schedule.specs.Line.{Parsed}
use Rattle.serf_schedule.specs.Schedule.{schedule_in}
use Rattle.serf_explain.specs.Range.{all_actions}
use Rattle.serf_explain.specs.Streamed.{IsHaltedBy}
use Rattle.serf_run_json.specs.Objects.{TellsObjects}

-- Some of the lines in these bytes were executed. They are a schedule, and the objects of its run were written, or only
-- a prefix of them if a write failed.
pub record IsObjectsHalted (explains : Bool) (error : StreamError Cause) (bytes : List ℕ) (first now : Option (List ℕ)) : Type 0 where
  pub lines : List (List ℕ)
  pub left : List (List ℕ)
  pub splits : lines_of bytes ≡ lines ++ left
  pub schedule : Parsed
  pub reads : schedule_in lines ≡ Ok schedule
  pub text : List ℕ
  pub tells : TellsObjects all_actions explains schedule.configs schedule.actions text
  pub written : WritesUpTo error first now text
  pub cause : IsHaltedBy error bytes lines left

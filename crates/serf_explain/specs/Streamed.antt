-- A schedule in which each line is explained as soon as it is read.
use Rattle.std.specs.Prelude.{◌≡◌, ℕ, ◌+◌, ◌<◌, ◌++◌, List, ◌∷◌, length, Option, Ok, Err}
use Rattle.serf_text.specs.declared.cause.Cause.{Cause}
use Rattle.serf_text.specs.declared.stream_error.StreamError.{StreamError}
use Rattle.serf_text.specs.declared.stream_error.StreamError.TheVariants.{ReadError, BadLine, LineTooLong, OutOfMemory, WriteError}
use Rattle.serf_text.specs.Lines.{lines_of, longest_line, number_after}
use Rattle.serf_text.specs.Streams.{WritesUpTo}
use Rattle.serf_schedule.specs.Line.{Parsed}
use Rattle.serf_schedule.specs.Schedule.{schedule_in, schedule_of}
use Rattle.serf_explain.specs.Explained.{TellsRun}
use Rattle.serf_explain.specs.Range.{all_actions}

-- What an error says about the lines that were executed, and about those that were not.
abbrev pub IsHaltedBy : StreamError Cause → List ℕ → List (List ℕ) → List (List ℕ) → Type 0
-- every complete line was executed
IsHaltedBy ReadError bytes lines left = length left ≡ 1
-- the whole schedule is refused at the same line for the same cause
IsHaltedBy (BadLine number cause) bytes lines left = (number ≡ number_after lines) × (schedule_of bytes ≡ Err (record { line = length lines + 1; cause = cause }))
IsHaltedBy (LineTooLong number) bytes lines left =
    (line : List ℕ) × (more : List (List ℕ)) × (left ≡ line ∷ more) × (number ≡ number_after lines) × (longest_line < length line)
IsHaltedBy OutOfMemory bytes lines left = Unit {0}
IsHaltedBy WriteError bytes lines left = Unit {0}

-- Some of the lines in these bytes were executed. They are a schedule, and the text of its run was written, or only a
-- prefix of this text if a write failed.
pub record IsHalted (error : StreamError Cause) (bytes : List ℕ) (first now : Option (List ℕ)) : Type 0 where
  pub lines : List (List ℕ)
  pub left : List (List ℕ)
  pub splits : lines_of bytes ≡ lines ++ left
  pub schedule : Parsed
  pub reads : schedule_in lines ≡ Ok schedule
  pub text : List ℕ
  pub tells : TellsRun all_actions schedule.configs schedule.actions text
  pub written : WritesUpTo error first now text
  pub cause : IsHaltedBy error bytes lines left

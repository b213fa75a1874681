-- The schedule that a text stands for, or its first bad line.
use Rattle.std.specs.Prelude.{◌≡◌, ℕ, ◌==◌, ◌+◌, List, [], ◌∷◌, Result, Ok, Err}
use Rattle.std.specs.List.{slice_split}
use Rattle.serf_schedule.specs.Line.{Parsed, after_line}
use Rattle.serf_text.specs.Gives.{BadLine, at_line}
use Rattle.serf_schedule.specs.declared.schedule.Schedule.{Schedule}
use Rattle.serf_text.specs.declared.cause.LineError.{LineError}
use Rattle.serf_text.specs.declared.cause.LineError.TheVariants.{Bad, OutOfMemory}
use Rattle.serf_schedule.specs.declared.parse.ScheduleError.{ScheduleError}
use Rattle.serf_schedule.specs.declared.parse.ScheduleError.TheVariants as errors

-- the agents and the actions that a schedule has
abbrev pub parsed_of : Schedule → Parsed
parsed_of s = record { configs = s.agents; actions = s.actions.items }

-- the schedule after some more lines, of which the first has this number
abbrev pub after_lines : ℕ → Parsed → List (List ℕ) → Result Parsed BadLine
after_lines number before [] = Ok before
after_lines number before (line ∷ lines) = at_line number (after_line before line) (λ after. after_lines (number + 1) after lines)

-- the schedule that lines stand for, or the first bad line
abbrev pub schedule_in : List (List ℕ) → Result Parsed BadLine
schedule_in lines = after_lines 1 (record { configs = []; actions = [] }) lines

abbrev pub schedule_of : List ℕ → Result Parsed BadLine
schedule_of text = schedule_in (slice_split (λ b. b == 10) text)

-- why a text is not a schedule if its line with this number has this error
abbrev pub schedule_error : ℕ → LineError → ScheduleError
schedule_error line (Bad cause) = errors.BadLine line cause
schedule_error line OutOfMemory = errors.OutOfMemory

-- what `parse_schedule` returns, unless memory runs out
abbrev pub Reads : Result Schedule ScheduleError → Result Parsed BadLine → Type 0
Reads (Ok schedule) said = said ≡ Ok (parsed_of schedule)
Reads (Err (errors.BadLine line cause)) said = said ≡ Err (record { line = line; cause = cause })
Reads (Err errors.OutOfMemory) said = Unit {0}

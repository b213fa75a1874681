-- The text that is written for a whole schedule.
use Rattle.std.specs.Prelude.{◌≡◌, ℕ, List, Ok}
use Rattle.serf_model.specs.Runs.{AreConfigs}
use Rattle.serf_schedule.specs.Line.{Parsed}
use Rattle.serf_schedule.specs.Output.{output_of}
use Rattle.serf_schedule.specs.Schedule.{schedule_of}
use Rattle.serf_replay.specs.Output.{TracesRun}
use Rattle.serf_replay.specs.Turns.{run_text}

-- the text that is written for the bytes of a schedule is the trace of its run
abbrev pub SchedulesTraceRuns : Type 0
SchedulesTraceRuns = (bytes : List ℕ) (said : Parsed) → schedule_of bytes ≡ Ok said → AreConfigs said.configs → (output_of bytes ≡ Ok (run_text said)) × TracesRun bytes (run_text said)

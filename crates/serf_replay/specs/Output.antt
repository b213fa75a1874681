-- The text that is written for the bytes that are read.
use Rattle.std.specs.Prelude.{◌≡◌, ℕ, List, Result, Ok, Err, All}
use Rattle.std.specs.declared.vec.Vec.{Vec}
use Rattle.serf_schedule.specs.declared.parse.ScheduleError.{ScheduleError}
use Rattle.serf_schedule.specs.declared.parse.ScheduleError.TheVariants as errors
use Rattle.serf_schedule.specs.Line.{Parsed}
use Rattle.serf_text.specs.Gives.{BadLine}
use Rattle.serf_schedule.specs.Schedule.{schedule_of}
use Rattle.serf_model.specs.Cluster.{run_of, trace_of}
use Rattle.serf_model.specs.Kept.{KeepsPromises}
use Rattle.serf_model.specs.Runs.{AreConfigs}
use Rattle.serf_model.specs.Sizes.{HasSizes}
use Rattle.serf_model.specs.Trace.{turns_of}
use Rattle.serf_schedule.specs.Show.{trace_text}

-- the maximum length of a schedule's text, in bytes
abbrev pub longest_schedule : ℕ
longest_schedule = 16777216

-- The input is a schedule whose agents can form a cluster. The text is the trace of its run, and the turns of this run
-- are those that the actions of the schedule and the trace show. The run keeps all promises.
pub record TracesRun (input text : List ℕ) : Type 0 where
  pub schedule : Parsed
  pub reads : schedule_of input ≡ Ok schedule
  pub settings : AreConfigs schedule.configs
  pub sizes : All HasSizes schedule.actions
  pub text_is : text ≡ trace_text (trace_of (run_of schedule.configs schedule.actions))
  pub turns : turns_of schedule.actions (trace_of (run_of schedule.configs schedule.actions)) ≡ (run_of schedule.configs schedule.actions).turns
  pub promises : KeepsPromises schedule.configs (run_of schedule.configs schedule.actions)

-- the result is the text of the definition, or its error, unless memory runs out
abbrev pub GivesText : {A : Type 0} → Result (Vec ℕ A) ScheduleError → Result (List ℕ) BadLine → Type 0
GivesText (Ok text) said = said ≡ Ok text.items
GivesText (Err (errors.BadLine line cause)) said = said ≡ Err (record { line = line; cause = cause })
GivesText (Err errors.OutOfMemory) said = Unit {0}

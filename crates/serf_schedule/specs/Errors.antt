-- What the errors of an input and of a schedule become when a schedule is read and run.
use Rattle.serf_text.specs.declared.input.InputError.{InputError}
use Rattle.serf_text.specs.declared.input.InputError.TheVariants as inputs
use Rattle.serf_schedule.specs.declared.parse.ReplayError.{ReplayError}
use Rattle.serf_schedule.specs.declared.parse.ReplayError.TheVariants as replays
use Rattle.serf_schedule.specs.declared.parse.ScheduleError.{ScheduleError}
use Rattle.serf_schedule.specs.declared.parse.ScheduleError.TheVariants as schedules

abbrev pub error_of_input : InputError → ReplayError
error_of_input inputs.ReadError = replays.ReadError
error_of_input inputs.ReadTooLong = replays.ReadTooLong
error_of_input inputs.OutOfMemory = replays.OutOfMemory

abbrev pub error_of_schedule : ScheduleError → ReplayError
error_of_schedule (schedules.BadLine line cause) = replays.BadLine line cause
error_of_schedule schedules.OutOfMemory = replays.OutOfMemory

-- The text that a teller wrote about the run of the schedule in an input.
use Rattle.std.specs.Prelude.{◌≡◌, ℕ, List, Ok, length}
use Rattle.serf_agent.specs.declared.config.Config.{Config}
use Rattle.serf_model.specs.declared.action.Action.{Action}
use Rattle.serf_schedule.specs.Line.{Parsed}
use Rattle.serf_schedule.specs.Schedule.{schedule_of}

-- the input is a schedule of `count` actions, and a teller wrote this text about its run
pub record ReportsInput {T : Type 0} (told : T → List Config → List Action → List ℕ → Type 0) (input text : List ℕ) (count : ℕ) : Type 0 where
  pub schedule : Parsed
  pub reads : schedule_of input ≡ Ok schedule
  pub teller : T
  pub tells : told teller schedule.configs schedule.actions text
  pub counted : count ≡ length schedule.actions

-- What a line adds to a schedule whose agents are held until the first action.
use Rattle.std.specs.Prelude.{◌≡◌, ◌++◌, Bool, false, if◌then◌else◌, nat_lt, List, length, Option}
use Rattle.std.specs.Option.{option_to_list}
use Rattle.serf_agent.specs.declared.config.Config.{Config}
use Rattle.serf_model.specs.declared.action.Action.{Action}
use Rattle.serf_schedule.specs.Line.{Parsed}

-- a line is late if an earlier line has an action; if it isn't late, these are the agents so far
pub record IsHeld (is_late : Bool) (agents : List Config) (before : Parsed) : Type 0 where
  pub late : nat_lt 0 (length before.actions) ≡ is_late
  pub agents_are : is_late ≡ false → before.configs ≡ agents

-- the schedule after a line that had this action
abbrev pub following : Bool → Parsed → List Config → Option Action → Parsed
following is_late before agents shown = record { configs = if is_late then before.configs else agents; actions = before.actions ++ option_to_list shown }

-- A schedule and its text while both grow. This is private to the crate.
use Rattle.std.specs.Prelude.{◌≡◌, ℕ, ◌<◌, ◌≤◌, ◌^◌, ◌++◌, List, length, All}
use Rattle.std.specs.List.{flat_map}
use Rattle.serf_agent.specs.declared.config.Config.{Config}
use Rattle.serf_model.specs.declared.action.Action.{Action}
use Rattle.serf_random.specs.declared.random_options.RandomOptions.{RandomOptions}
use Rattle.serf_schedule.specs.Sayable.{IsSayable}
use Rattle.serf_schedule.specs.ScheduleText.{action_text, agent_text}

-- The text of a schedule has at most this length.
abbrev pub IsShort : List ℕ → Type 0
IsShort text = length text ≤ 16777216

-- Some agents and their lines were added, as long as the text stayed short.
pub record AddsAgents (old new : List ℕ) (before after : List Config) : Type 0 where
  pub added : List Config
  pub agents : after ≡ before ++ added
  pub text : new ≡ old ++ flat_map agent_text added
  pub short : IsShort old → IsShort new

-- Some actions, at most this many, and their lines were added too. The lines can express these actions.
pub record AddsActions (maximum : ℕ) (old new : List ℕ) (before after : List Action) : Type 0 where
  pub added : List Action
  pub actions : after ≡ before ++ added
  pub text : new ≡ old ++ flat_map action_text added
  pub few : length added ≤ maximum
  pub sayable : All IsSayable added
  pub short : IsShort old → IsShort new

-- The options have numbers of 64 bits.
abbrev pub HasNumbers : RandomOptions → Type 0
HasNumbers ask = (ask.seed < 2 ^ 64) × (ask.agents < 2 ^ 64) × (ask.actions < 2 ^ 64) × (ask.fanout < 2 ^ 64) × (ask.loss < 2 ^ 64) × (ask.rounds < 2 ^ 64)

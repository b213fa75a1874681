-- The run of a schedule whose lines are done one by one, each as soon as it is read.
use Rattle.std.specs.Prelude.{◌≡◌, ℕ, ◌+◌, ◌<◌, ◌++◌, List, [], ◌∷◌, length, Option, Some, None, Ok, Err}
use Rattle.serf_agent.specs.declared.config.Config.{Config}
use Rattle.serf_model.specs.declared.action.Action.{Action}
use Rattle.serf_model.specs.Runs.{AreConfigs}
use Rattle.serf_text.specs.declared.cause.Cause.{Cause}
use Rattle.serf_text.specs.declared.cause.LineError.{LineError}
use Rattle.serf_text.specs.declared.cause.LineError.TheVariants.{Bad, OutOfMemory}
use Rattle.serf_world.specs.Acts.{Acts}
use Rattle.serf_schedule.specs.Line.{Parsed}
use Rattle.serf_schedule.specs.Schedule.{schedule_in}
use Rattle.serf_schedule.specs.declared.run.Acting.{Acting}
use Rattle.serf_schedule.specs.declared.run.Run.{Run}

-- the actions of a schedule, of which there is at least one, were done, and this text is about them
pub record HasActed {T : Type 0} (told : T → List Config → List Action → List ℕ → Type 0) (said : Parsed) (acting : Acting) (t : T) (text : List ℕ) : Type 0 where
  pub some : 0 < length said.actions
  pub counted : acting.turns ≡ length said.actions
  pub sized : acting.agents ≡ length said.configs
  pub acts : Acts told said.configs said.actions acting.world t text

-- Before the first action, the run holds the agents, and the text is about no action, whatever agents follow.
abbrev pub IsStage : {T : Type 0} → (T → List Config → List Action → List ℕ → Type 0) → List Config → Option Acting → T → Parsed → List ℕ → Type 0
IsStage told agents None t said text = (said.configs ≡ agents) × (said.actions ≡ []) × ((configs : List Config) → told t configs [] text)
IsStage told agents (Some acting) t said text = HasActed told said acting t text

-- these lines were done, and this text is about them
pub record HasRun {T : Type 0} (told : T → List Config → List Action → List ℕ → Type 0) (run : Run T) (lines : List (List ℕ)) (text : List ℕ) : Type 0 where
  pub said : Parsed
  pub reads : schedule_in lines ≡ Ok said
  pub settings : AreConfigs said.configs
  pub stage : IsStage told run.agents run.acting run.reporter said text
  pub tells : told run.reporter said.configs said.actions text

-- something was appended to a text, and it continues the earlier text
pub record TellsMore (has : List ℕ → Type 0) (told old new : List ℕ) : Type 0 where
  pub more : List ℕ
  pub text_is : new ≡ old ++ more
  pub tells : has (told ++ more)

-- these lines were done, and this text is about them, for some options that `streams` allows
abbrev pub HasStreamed : {A T : Type 0} → (A → Type 0) → (A → T → List Config → List Action → List ℕ → Type 0) → Run T → List (List ℕ) → List ℕ → Type 0
HasStreamed {A} streams told run lines text = (options : A) × streams options × HasRun (told options) run lines text

-- a line after others is the first that isn't valid, for this cause, whatever follows it
abbrev pub is_refused_by : List (List ℕ) → List ℕ → Cause → Type 0
is_refused_by lines line cause = (more : List (List ℕ)) → schedule_in (lines ++ line ∷ more) ≡ Err (record { line = length lines + 1; cause = cause })

-- the same for the error that the code returns, unless memory ran out
abbrev pub IsLineRefused : LineError → List (List ℕ) → List ℕ → Type 0
IsLineRefused (Bad cause) lines line = is_refused_by lines line cause
IsLineRefused OutOfMemory lines line = Unit {0}

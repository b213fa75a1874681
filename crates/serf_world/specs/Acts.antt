-- The text about the turns of a run.
use Rattle.std.specs.Prelude.{ℕ, List}
use Rattle.serf_agent.specs.declared.config.Config.{Config}
use Rattle.serf_model.specs.declared.action.Action.{Action}
use Rattle.serf_model.specs.declared.line.Line.{Line}
use Rattle.serf_world.specs.View.{HasDone, WorldState}

-- these actions were done in a cluster of agents with these settings, and this text was written about them
pub record Acts {T : Type 0} (told : T → List Config → List Action → List ℕ → Type 0) (configs : List Config) (actions : List Action) (w : WorldState) (t : T) (text : List ℕ) : Type 0 where
  pub lines : List Line
  pub done : HasDone configs actions lines w
  pub tells : told t configs actions text

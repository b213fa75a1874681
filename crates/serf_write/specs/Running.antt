-- A cluster that does each action as soon as it is read. These definitions are private to the crate.
use Rattle.std.specs.Prelude.{List, Option, Some, None}
use Rattle.serf_agent.specs.declared.config.Config.{Config}
use Rattle.serf_model.specs.declared.action.Action.{Action}
use Rattle.serf_model.specs.declared.line.Line.{Line}
use Rattle.serf_world.specs.View.{HasDone, WorldState}

-- the cluster has done exactly these actions
abbrev pub HasWorld : List Config → List Action → WorldState → Type 0
HasWorld configs actions world = (lines : List Line) × HasDone configs actions lines world

-- the cluster, if there is one, has done exactly these actions; there is none before the first action, or if memory ran
-- out
abbrev pub HasRun : List Config → List Action → Option WorldState → Type 0
HasRun configs actions None = Unit {0}
HasRun configs actions (Some world) = HasWorld configs actions world

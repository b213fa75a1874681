-- Schedules in which every turn is common.
use Rattle.std.specs.Prelude.{◌≡◌, true, List, All}
use Rattle.serf_agent.specs.declared.config.Config.{Config}
use Rattle.serf_model.specs.Cluster.{run_of}
use Rattle.serf_model.specs.Trace.{Turn, actor_of}
use Rattle.serf_model.specs.Common.{is_common, settings_of}
use Rattle.serf_schedule.specs.Line.{Parsed}

-- With the settings of the agent that acts, the turn rests on none of this project's own rules.
abbrev pub IsCommon : List Config → Turn → Type 0
IsCommon configs t = is_common (settings_of configs (actor_of t.action)) t ≡ true

-- This holds for each turn of a schedule's run.
abbrev pub AreCommon : Parsed → Type 0
AreCommon p = All (IsCommon p.configs) (run_of p.configs p.actions).turns

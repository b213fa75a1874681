-- A schedule and the trace of its run.
use Rattle.std.specs.Prelude.{◌≡◌, List}
use Rattle.serf_model.specs.Cluster.{run_of, trace_of}
use Rattle.serf_model.specs.Trace.{Turn, outcome_of, turns_of}
use Rattle.serf_schedule.specs.Line.{Parsed}
use Rattle.serf_conform.specs.declared.sweep.Case.{Case}

-- the turns of a schedule's run
abbrev pub turns_in : Parsed → List Turn
turns_in p = turns_of p.actions (trace_of (run_of p.configs p.actions))

-- The case has this schedule and the trace of its run.
pub record IsRunOf (p : Parsed) (c : Case) : Type 0 where
  pub configs : c.configs.items ≡ p.configs
  pub actions : c.actions.items ≡ p.actions
  pub trace : outcome_of c.trace ≡ trace_of (run_of p.configs p.actions)

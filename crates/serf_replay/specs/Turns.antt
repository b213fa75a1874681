-- The run of a schedule.
use Rattle.std.specs.Prelude.{ℕ, List, map}
use Rattle.serf_model.specs.Cluster.{Run, run_of, trace_of}
use Rattle.serf_model.specs.declared.line.Line.{Line}
use Rattle.serf_schedule.specs.Line.{Parsed}
use Rattle.serf_schedule.specs.Show.{trace_text}

abbrev pub run_in : Parsed → Run
run_in s = run_of s.configs s.actions

-- the results of its actions, one line for each
abbrev pub lines_in : Parsed → List Line
lines_in s = map (λ t. t.line) (run_in s).turns

-- the text of a schedule's trace
abbrev pub run_text : Parsed → List ℕ
run_text s = trace_text (trace_of (run_in s))

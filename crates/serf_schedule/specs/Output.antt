-- The output for a text that is read.
use Rattle.std.specs.Prelude.{ℕ, List, Result, Ok, Err}
use Rattle.serf_text.specs.Gives.{BadLine}
use Rattle.serf_schedule.specs.Line.{Parsed}
use Rattle.serf_schedule.specs.Schedule.{schedule_of}
use Rattle.serf_schedule.specs.Show.{trace_text}
use Rattle.serf_model.specs.Cluster.{run_of, trace_of}

abbrev pub text_of : Result Parsed BadLine → Result (List ℕ) BadLine
text_of (Ok schedule) = Ok (trace_text (trace_of (run_of schedule.configs schedule.actions)))
text_of (Err bad) = Err bad

-- the text of the trace of the schedule that a text stands for, or its first bad line
abbrev pub output_of : List ℕ → Result (List ℕ) BadLine
output_of text = text_of (schedule_of text)

use Rattle.serf_agent.proofs.Names.{List, take, ℕ, ◌++◌, flat_map}
use Rattle.serf_agent.proofs.own_lines.write_entries.Given as goal

abbrev pub invariant-loop-key : goal.invariant-loop-key
invariant-loop-key g l = (before : List ℕ) → g.O.LineOutput.has l.fn.output before → g.O.LineOutput.has l.output (before ++ flat_map (g.K.Written.line l.time) (take l.key-index l.held))

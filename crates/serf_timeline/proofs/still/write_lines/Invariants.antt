use Rattle.serf_timeline.proofs.Names.{take, ◌++◌, ◌≡◌, flat_map, line_text}
use Rattle.serf_timeline.proofs.still.write_lines.Given as goal

-- the rows of the first lines were written
abbrev pub invariant-loop-line : goal.invariant-loop-line
invariant-loop-line l = l.out.items ≡ l.fn.out.items ++ flat_map (line_text l.columns) (take l.line-index l.lines)

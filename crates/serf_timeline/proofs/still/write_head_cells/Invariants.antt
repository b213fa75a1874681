use Rattle.serf_timeline.proofs.Names.{take, ◌++◌, ◌≡◌, flat_map, head_cell}
use Rattle.serf_timeline.proofs.still.write_head_cells.Given as goal

-- the headings of the first columns were written
abbrev pub invariant-loop-column : goal.invariant-loop-column
invariant-loop-column l = l.out.items ≡ l.fn.out.items ++ flat_map head_cell (take l.column-index l.columns)

use Rattle.serf_timeline.proofs.Names.{take, ◌++◌, ◌≡◌, flat_map, cell_text}
use Rattle.serf_timeline.proofs.still.write_cells.Given as goal

-- the cells of the first columns were written
abbrev pub invariant-loop-column : goal.invariant-loop-column
invariant-loop-column l = l.out.items ≡ l.fn.out.items ++ flat_map (cell_text l.line) (take l.column-index l.columns)

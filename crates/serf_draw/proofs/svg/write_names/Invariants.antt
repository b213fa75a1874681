use Rattle.serf_draw.proofs.Names.{drop, ◌++◌, ◌≡◌, names_text}
use Rattle.serf_draw.proofs.svg.write_names.Given as goal

-- the names so far, followed by those of the lanes that are left
abbrev pub invariant-loop-lane : goal.invariant-loop-lane
invariant-loop-lane l = (l.place ≡ l.lane-index)
    × (l.out.items ++ names_text l.line l.place (drop l.lane-index l.lanes) ≡ l.fn.out.items ++ names_text l.line 0 l.lanes)

use Rattle.serf_draw.proofs.Names.{drop, ◌++◌, ◌≡◌, lanes_text}
use Rattle.serf_draw.proofs.svg.write_lanes.Given as goal

-- the lanes so far, followed by those that are left
abbrev pub invariant-loop-lane : goal.invariant-loop-lane
invariant-loop-lane l = (l.place ≡ l._lane-index)
    × (l.out.items ++ lanes_text l.last l.place (drop l._lane-index l.lanes) ≡ l.fn.out.items ++ lanes_text l.last 0 l.lanes)

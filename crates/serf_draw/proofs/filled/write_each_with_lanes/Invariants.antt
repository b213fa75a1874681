use Rattle.serf_draw.proofs.Names.{List, OnOk, take, ℕ, ◌++◌, ◌≡◌, flat_map, Lane}
use Rattle.serf_draw.proofs.filled.write_each_with_lanes.Given as goal

abbrev pub invariant-loop-item : goal.invariant-loop-item
invariant-loop-item g l = (text : List Lane → g.row.T.Denot → List ℕ)
    → ((o : _) (b : _) (x : _) (r : _) (after : _) → goal.F-post g l.put o b x r after → OnOk r (after.now.items ≡ o.now.items ++ text b.now x.now))
    → l.out.items ≡ l.fn.out.items ++ flat_map (text l.lanes) (take l.item-index l.items)

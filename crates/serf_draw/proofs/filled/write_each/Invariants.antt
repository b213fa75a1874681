use Rattle.serf_draw.proofs.Names.{List, OnOk, take, ℕ, ◌++◌, ◌≡◌, flat_map}
use Rattle.serf_draw.proofs.filled.write_each.Given as goal

abbrev pub invariant-loop-item : goal.invariant-loop-item
invariant-loop-item g l = (text : g.row.T.Denot → List ℕ)
    → ((o : _) (x : _) (r : _) (after : _) → goal.F-post g l.put o x r after → OnOk r (after.now.items ≡ o.now.items ++ text x.now))
    → l.out.items ≡ l.fn.out.items ++ flat_map text (take l.item-index l.items)

use Rattle.serf_judge.proofs.Names.{List, map, take, true, ◌≡◌, contains, handed_seen, key_eq, AreKept, Delivery}
use Rattle.serf_judge.proofs.again.repeats.Given as goal

-- of the lines so far, those that appear again are kept
abbrev pub invariant-loop-entry : goal.invariant-loop-entry
invariant-loop-entry g l = (lines : List Delivery) × (map handed_seen lines ≡ map g.E.Delivered.seen (take l.entry-index l.entries))
    × AreKept true key_eq (λ h. h.key) lines l.found.items (contains key_eq l.recorded)

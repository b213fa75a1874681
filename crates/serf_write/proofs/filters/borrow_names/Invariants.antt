use Rattle.serf_write.proofs.Names.{List, map, take, ℕ, ◌≡◌, Bor}
use Rattle.serf_write.proofs.filters.borrow_names.Given as goal

abbrev pub invariant-loop-name : goal.invariant-loop-name
invariant-loop-name l = map (λ (t : Bor (List ℕ)). t.now) l.borrowed.items ≡ take l.name-index l.names

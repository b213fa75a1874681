use Rattle.serf_judge.proofs.Names.{map, take, ◌≡◌, key_identity}
use Rattle.serf_judge.proofs.once.first_twice.Given as goal

abbrev pub invariant-loop-entry : goal.invariant-loop-entry
invariant-loop-entry g l = map key_identity l.keys.items ≡ map (λ e. (g.E.Delivered.seen e).1) (take l.entry-index l.entries)

use Rattle.serf_wire.proofs.Names.{false, take, ◌≡◌, list_any, is_long}
use Rattle.serf_wire.proofs.long.has_long_name.Given as goal

abbrev pub invariant-loop-entry : goal.invariant-loop-entry
invariant-loop-entry l = list_any (λ s. is_long s.name.now) (take l.entry-index l.status) ≡ false

use Rattle.serf_model.proofs.Names.{take, ◌≡◌}
use Rattle.serf_model.proofs.query.copy_lists.Given as goal

abbrev pub invariant-loop-list : goal.invariant-loop-list
invariant-loop-list l = l.copies.items ≡ take l.list-index l.lists

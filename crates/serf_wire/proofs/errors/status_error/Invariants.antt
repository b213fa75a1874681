use Rattle.serf_wire.proofs.Names.{◌≡◌, pairs_of, tree_of, pairs_left, first, items_errors, status_time_errors}
use Rattle.serf_wire.proofs.errors.status_error.Given as goal

abbrev pub invariant-loop-name : goal.invariant-loop-name
invariant-loop-name l = first (items_errors status_time_errors (pairs_left l.name-iterator)) ≡ first (items_errors status_time_errors (pairs_of (tree_of l.value)))

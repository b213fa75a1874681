use Rattle.serf_wire.proofs.Names.{◌≡◌, items_of, tree_of, items_left, first, items_errors, text_errors}
use Rattle.serf_wire.proofs.errors.texts_error.Given as goal

abbrev pub invariant-loop-item : goal.invariant-loop-item
invariant-loop-item l = first (items_errors text_errors (items_left l.item-iterator)) ≡ first (items_errors text_errors (items_of (tree_of l.value)))

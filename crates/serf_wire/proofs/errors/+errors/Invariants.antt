use Rattle.serf_wire.proofs.Names.{◌*◌, ◌+◌, ◌≡◌, items_of, pairs_of, tree_of, items_left, pairs_left, first, items_errors, map_errors, value_errors}
use Rattle.serf_wire.proofs.Stepping.{Walked}
use Rattle.serf_wire.proofs.errors.+errors.Given as goal

abbrev pub decreases-value_error : goal.decreases-value_error
decreases-value_error l = 5 * l.depth_left

abbrev pub decreases-maps_error : goal.decreases-maps_error
decreases-maps_error l = 5 * l.depth_left + 4

abbrev pub decreases-map_error : goal.decreases-map_error
decreases-map_error l = 5 * l.depth_left + 3

abbrev pub decreases-find_fields : goal.decreases-find_fields
decreases-find_fields l = 5 * l.depth_left + 2

abbrev pub decreases-find_pair : goal.decreases-find_pair
decreases-find_pair l = 5 * l.depth_left + 1

abbrev pub invariant-maps_error-maps : goal.invariant-maps_error-maps
invariant-maps_error-maps l = first (items_errors (map_errors (value_errors l.depth_left) l.layout) (items_left l.item-iterator)) ≡ first (items_errors (map_errors (value_errors l.depth_left) l.layout) (items_of (tree_of l.value)))

-- the pairs before this one were read and have no error
abbrev pub invariant-find_fields-pairs : goal.invariant-find_fields-pairs
invariant-find_fields-pairs l = Walked (value_errors l.depth_left) l.layout (pairs_of (tree_of l.map)) l.found (pairs_left l.key-iterator)

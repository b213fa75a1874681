use Rattle.serf_pack.proofs.Names.{length, ◌*◌, ◌+◌, ◌-◌, ◌≡◌, ◌≤◌, rest_of, items_at, pairs_at, value_at}
use Rattle.serf_pack.proofs.skip.+skip.Given as goal

abbrev pub decreases-skip : goal.decreases-skip
decreases-skip l = 3 * l.depth_left + 1

abbrev pub decreases-skip_any : goal.decreases-skip_any
decreases-skip_any l = 3 * l.depth_left

abbrev pub decreases-skip_items : goal.decreases-skip_items
decreases-skip_items l = 3 * l.depth_left + 2

abbrev pub decreases-skip_pairs : goal.decreases-skip_pairs
decreases-skip_pairs l = 3 * l.depth_left + 2

abbrev pub invariant-skip_items-items : goal.invariant-skip_items-items
invariant-skip_items-items l = record {
  read : rest_of (items_at (value_at l.depth_left l.total) (l.count - l.counter) l.rest) ≡ rest_of (items_at (value_at l.depth_left l.total) l.count l.bytes);
  within : length l.rest ≤ length l.bytes;
}

abbrev pub invariant-skip_pairs-pairs : goal.invariant-skip_pairs-pairs
invariant-skip_pairs-pairs l = record {
  read : rest_of (pairs_at (value_at l.depth_left l.total) (l.count - l.counter) l.rest) ≡ rest_of (pairs_at (value_at l.depth_left l.total) l.count l.bytes);
  within : length l.rest ≤ length l.bytes;
}

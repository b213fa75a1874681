use Rattle.serf_wire.proofs.Names.{false, take, ◌≡◌, list_any, is_long}
use Rattle.serf_wire.proofs.long.has_long_filter.Given as goal

abbrev pub invariant-loop-filter : goal.invariant-loop-filter
invariant-loop-filter l = list_any is_long (take l.filter-index l.filters) ≡ false

use Rattle.serf_wire.proofs.Names.{take, ◌++◌, ◌≡◌, flat_map, raw_bytes}
use Rattle.serf_wire.proofs.put.write_filters.Given as goal

abbrev pub invariant-loop-filter : goal.invariant-loop-filter
invariant-loop-filter l = l.out.items ≡ l.fn.out.items ++ flat_map raw_bytes (take l.filter-index l.filters)

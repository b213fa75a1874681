use Rattle.serf_wire.proofs.Names.{length, take, ◌*◌, ◌^◌, ◌≡◌, ◌≤◌, flat_map, raw_bytes}
use Rattle.serf_wire.proofs.length.filters_len.Given as goal

abbrev pub invariant-loop-filter : goal.invariant-loop-filter
invariant-loop-filter l = record { value : l.total ≡ length (flat_map raw_bytes (take l.filter-index l.filters)); small : l.total ≤ l.filter-index * 2 ^ 64 }

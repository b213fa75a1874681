use Rattle.serf_wire.proofs.Names.{nat_lt, take, true, ◌++◌, ◌≡◌, flat_map, list_all, status_time_bytes, status_of}
use Rattle.serf_wire.proofs.put.write_status_times.Given as goal

abbrev pub invariant-loop-entry : goal.invariant-loop-entry
invariant-loop-entry l = record { bytes : l.out.items ≡ l.fn.out.items ++ flat_map (λ s. status_time_bytes (status_of s)) (take l.entry-index l.status); times : list_all (λ s. nat_lt s.time 18446744073709551616) (take l.entry-index l.status) ≡ true }

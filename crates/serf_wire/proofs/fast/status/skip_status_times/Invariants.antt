use Rattle.serf_wire.proofs.Names.{AreParts, status_part_bytes}
use Rattle.serf_wire.proofs.fast.status.skip_status_times.Given as goal

abbrev pub invariant-times : goal.invariant-times
invariant-times l = AreParts status_part_bytes l.counter l.bytes l.rest

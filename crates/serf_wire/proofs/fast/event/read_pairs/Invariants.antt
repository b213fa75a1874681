use Rattle.serf_wire.proofs.Names.{IsEventSoFar, IsReadSoFar}
use Rattle.serf_wire.proofs.fast.event.read_pairs.Given as goal

-- this many pairs were read
abbrev pub invariant-pairs : goal.invariant-pairs
invariant-pairs l = IsReadSoFar IsEventSoFar l.found l.counter l.bytes l.rest

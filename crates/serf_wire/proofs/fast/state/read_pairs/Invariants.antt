use Rattle.serf_wire.proofs.Names.{IsReadSoFar, IsStateSoFar}
use Rattle.serf_wire.proofs.fast.state.read_pairs.Given as goal

-- this many pairs were read
abbrev pub invariant-pairs : goal.invariant-pairs
invariant-pairs l = IsReadSoFar IsStateSoFar l.found l.counter l.bytes l.rest

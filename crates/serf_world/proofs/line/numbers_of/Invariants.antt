use Rattle.serf_world.proofs.Names.{drop, ◌++◌, ◌+◌, ◌≡◌, numbers_from}
use Rattle.serf_world.proofs.line.numbers_of.Given as goal

-- the numbers so far, and those of the packets that are left
abbrev pub invariant-loop-packet : goal.invariant-loop-packet
invariant-loop-packet l = (l.next ≡ l.first + l._packet-index) × (l.numbers.items ++ numbers_from l.next (drop l._packet-index l.packets) ≡ numbers_from l.first l.packets)

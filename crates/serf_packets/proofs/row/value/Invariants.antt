use Rattle.serf_packets.proofs.Names.{drop, map, ◌≡◌, row_seen, value_of}
use Rattle.serf_packets.proofs.row.value.Given as goal

-- no row so far has the name
abbrev pub invariant-loop-row : goal.invariant-loop-row
invariant-loop-row l = value_of l.name (map row_seen (drop l.row-index l.rows)) ≡ value_of l.name (map row_seen l.rows)

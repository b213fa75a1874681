use Rattle.serf_packets.proofs.Names.{drop, map, ◌++◌, ◌≡◌, texts_at, row_seen}
use Rattle.serf_packets.proofs.meant.texts_field.Given as goal

-- the bytes of the lines so far, and then those of the remaining lines
abbrev pub invariant-loop-row : goal.invariant-loop-row
invariant-loop-row l = l.texts.items ++ texts_at l.name (map row_seen (drop l.row-index l.rows)) ≡ texts_at l.name (map row_seen l.rows)

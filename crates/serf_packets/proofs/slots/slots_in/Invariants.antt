use Rattle.serf_packets.proofs.Names.{drop, map, ◌≡◌, fold, slot_content, after_row, slots_meant, row_seen}
use Rattle.serf_packets.proofs.slots.slots_in.Given as goal

-- the remaining lines continue from the slots so far
abbrev pub invariant-loop-row : goal.invariant-loop-row
invariant-loop-row l = fold after_row (map slot_content l.slots.items) (map row_seen (drop l.row-index l.rows)) ≡ slots_meant (map row_seen l.rows)

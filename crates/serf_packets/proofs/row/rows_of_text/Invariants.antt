use Rattle.serf_packets.proofs.Names.{length, map, ◌++◌, ◌≡◌, row_seen, rows_in}
use Rattle.serf_packets.proofs.row.rows_of_text.Given as goal

-- the lines so far, and then those of the remaining text
abbrev pub invariant-lines : goal.invariant-lines
invariant-lines l = map row_seen l.rows.items ++ rows_in l.rest ≡ rows_in l.fn.text

abbrev pub decreases-lines : goal.decreases-lines
decreases-lines l = length l.rest

use Rattle.serf_packets.proofs.Names.{drop, map, ◌++◌, ◌≡◌, row_seen, member_held, members_of}
use Rattle.serf_packets.proofs.slots.members_in.Given as goal

-- the members of the lines so far, and then those of the remaining lines
abbrev pub invariant-loop-row : goal.invariant-loop-row
invariant-loop-row l = map member_held l.members.items ++ members_of (map row_seen (drop l.row-index l.rows)) ≡ members_of (map row_seen l.rows)

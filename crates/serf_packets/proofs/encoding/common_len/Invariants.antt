use Rattle.serf_packets.proofs.Names.{drop, length, ◌+◌, ◌-◌, ◌≡◌, ◌≤◌, common}
use Rattle.serf_packets.proofs.encoding.common_len.Given as goal

-- the bytes so far are common, and the others are those that the rests have in common
abbrev pub invariant-bytes : goal.invariant-bytes
invariant-bytes l = (l.len ≤ length l.text) × (l.len ≤ length l.other) × (common l.text l.other ≡ common (drop l.len l.text) (drop l.len l.other) + l.len)

abbrev pub decreases-bytes : goal.decreases-bytes
decreases-bytes l = length l.text - l.len

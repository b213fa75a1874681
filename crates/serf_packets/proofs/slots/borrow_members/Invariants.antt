use Rattle.serf_packets.proofs.Names.{map, take, ◌≡◌, status_of, member_held}
use Rattle.serf_packets.proofs.slots.borrow_members.Given as goal

abbrev pub invariant-loop-member : goal.invariant-loop-member
invariant-loop-member l = map status_of l.status.items ≡ map member_held (take l.member-index l.members)

use Rattle.serf_agent_c.proofs.Names.{map, take, ◌≡◌, status_of, named}
use Rattle.serf_agent_c.proofs.members.borrow_status.Given as goal

abbrev pub invariant-loop-member : goal.invariant-loop-member
invariant-loop-member l = map status_of l.borrowed.items ≡ map named (take l.member-index l.members)

use Rattle.serf_agent_c.proofs.Names.{map, ◌++◌, ◌≡◌, status_left, status_head}
use Rattle.serf_agent_c.proofs.state_members.write_status_heads.Given as goal

-- what was written so far, followed by what is left
abbrev pub invariant-loop-entry : goal.invariant-loop-entry
invariant-loop-entry l = l.out.items ++ map status_head (status_left l.entry-iterator) ≡ l.fn.out.items ++ map status_head (status_left l.fn.status)

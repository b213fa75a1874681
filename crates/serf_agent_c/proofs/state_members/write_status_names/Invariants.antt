use Rattle.serf_agent_c.proofs.Names.{◌++◌, ◌≡◌, flat_map, status_left}
use Rattle.serf_agent_c.proofs.state_members.write_status_names.Given as goal

-- what was written so far, followed by what is left
abbrev pub invariant-loop-entry : goal.invariant-loop-entry
invariant-loop-entry l = l.out.items ++ flat_map (λ p. p.0) (status_left l.entry-iterator) ≡ l.fn.out.items ++ flat_map (λ p. p.0) (status_left l.fn.status)

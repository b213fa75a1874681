use Rattle.serf_run_json.proofs.Names.{drop, ◌++◌, ◌≡◌, agents_text, settings_of}
use Rattle.serf_run_json.proofs.states.write_agents.Given as goal

-- the objects of the agents that are left follow
abbrev pub invariant-loop-number : goal.invariant-loop-number
invariant-loop-number l = l.out.items ++ agents_text l.number (drop l.number (settings_of l.world)) ≡ l.fn.out.items ++ agents_text 0 (settings_of l.world)

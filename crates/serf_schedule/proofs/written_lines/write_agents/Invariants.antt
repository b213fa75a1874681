use Rattle.serf_schedule.proofs.TextNames.{◌≡◌, ◌++◌, take, flat_map}
use Rattle.serf_schedule.proofs.Names.{agent_text}
use Rattle.serf_schedule.proofs.written_lines.write_agents.Given as goal

abbrev pub invariant-loop-agent : goal.invariant-loop-agent
invariant-loop-agent l = l.out.items ≡ l.fn.out.items ++ flat_map agent_text (take l.agent-index l.agents)

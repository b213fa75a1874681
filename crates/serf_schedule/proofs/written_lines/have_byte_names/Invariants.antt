use Rattle.serf_schedule.proofs.TextNames.{All, take}
use Rattle.serf_schedule.proofs.Names.{HasByteName}
use Rattle.serf_schedule.proofs.written_lines.have_byte_names.Given as goal

abbrev pub invariant-loop-agent : goal.invariant-loop-agent
invariant-loop-agent l = All HasByteName (take l.agent-index l.agents)

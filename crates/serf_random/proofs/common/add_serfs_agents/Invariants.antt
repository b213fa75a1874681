use Rattle.serf_random.proofs.Names.{[], AddsAgents}
use Rattle.serf_random.proofs.common.add_serfs_agents.Given as goal

abbrev pub invariant-loop-config : goal.invariant-loop-config
invariant-loop-config l = AddsAgents l.fn.text.items l.text.items [] l.roster

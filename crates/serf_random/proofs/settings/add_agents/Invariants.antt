use Rattle.serf_random.proofs.Names.{[], AddsAgents}
use Rattle.serf_random.proofs.settings.add_agents.Given as goal

abbrev pub invariant-loop-number : goal.invariant-loop-number
invariant-loop-number l = AddsAgents l.fn.text.items l.text.items [] l.roster

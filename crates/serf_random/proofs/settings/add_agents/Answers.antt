use Rattle.serf_random.proofs.Names.{[], subst, sym, AddsAgents}
use Rattle.serf_random.proofs.DraftLemmas.{more_agents, no_agents}
use Rattle.serf_random.proofs.settings.add_agents.Goals as goal

pub loop-number-init : goal.loop-number-init
loop-number-init c = subst (λ r. AddsAgents c.args.text.now.items c.args.text.now.items [] r) (sym c.new-roster.ensures) (no_agents c.args.text.now.items [])

pub loop-number-preserved : goal.loop-number-preserved
loop-number-preserved c = more_agents _ _ _ _ _ _ c.loop-number.invariant c.in_ok-add_agent.ensures

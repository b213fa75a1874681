use Rattle.serf_random.proofs.Names.{[], subst, sym, AddsAgents}
use Rattle.serf_random.proofs.DraftLemmas.{more_agents, no_agents}
use Rattle.serf_random.proofs.common.add_serfs_agents.Goals as goal

pub loop-config-init : goal.loop-config-init
loop-config-init c = subst (λ r. AddsAgents c.args.text.now.items c.args.text.now.items [] r) (sym c.new-roster.ensures) (no_agents c.args.text.now.items [])

pub loop-config-preserved : goal.loop-config-preserved
loop-config-preserved c = more_agents _ _ _ _ _ _ c.loop-config.invariant c.in_ok-add_agent.ensures

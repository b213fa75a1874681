use Rattle.serf_draw.proofs.Names.{drop, filter, ◌++◌, ◌≡◌, is_chosen, lanes_from, shown_lanes}
use Rattle.serf_draw.proofs.drawing.lanes_of.Given as goal

-- the lanes so far, followed by those of the agents that are left
abbrev pub invariant-loop-config : goal.invariant-loop-config
invariant-loop-config l = (l.agent ≡ l.config-index)
    × (l.lanes.items ++ filter (λ x. is_chosen l.options.agents.items x.agent) (lanes_from l.agent (drop l.config-index l.configs)) ≡ shown_lanes l.options l.configs)

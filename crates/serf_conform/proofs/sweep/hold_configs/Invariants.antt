use Rattle.serf_conform.proofs.Names.{[], length, ◌+◌, ◌≤◌, outcome_of, turns_of, is_serf, IsSweeping, no_counts, sweep_from}
use Rattle.serf_conform.proofs.sweep.hold_configs.Given as goal

-- The agents that are left, with what is left of the input, lead to the same result as all agents do.
abbrev pub invariant-agents : goal.invariant-agents
invariant-agents g l = IsSweeping (g.R.Read.remaining l.fn.pipe.reader) (g.R.Read.remaining l.pipe.reader) (g.W.Write.contents l.fn.pipe.writer) (g.W.Write.contents l.pipe.writer)
    (λ input. sweep_from (is_serf l.rules) (turns_of l.fn.actions (outcome_of l.fn.trace)) 0 no_counts [] l.fn.configs input)
    (λ w rest. sweep_from (is_serf l.rules) (turns_of l.fn.actions (outcome_of l.fn.trace)) l.agent l.counts w l.left rest)
    × (l.agent + length l.left ≤ length l.fn.configs)

abbrev pub decreases-agents : goal.decreases-agents
decreases-agents g l = length l.left

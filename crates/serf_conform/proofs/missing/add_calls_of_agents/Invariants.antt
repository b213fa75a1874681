use Rattle.serf_conform.proofs.Names.{drop, ◌++◌, ◌≡◌, ◌≤◌, own_from}
use Rattle.serf_conform.proofs.missing.add_calls_of_agents.Given as goal

-- the actions so far, and those of the calls that are left
abbrev pub invariant-loop-own : goal.invariant-loop-own
invariant-loop-own l = (l.actions.items ++ own_from l.packet (drop l.own-index l.calls) ≡ l.fn.actions.items ++ own_from 0 l.calls) × (l.packet ≤ l.own-index)

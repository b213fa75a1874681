use Rattle.serf_conform.proofs.Names.{drop, ◌++◌, ◌≡◌, ◌≤◌, placed_from}
use Rattle.serf_conform.proofs.agent_calls.add_numbered.Given as goal

-- the actions so far, and those of the calls that are left
abbrev pub invariant-loop-call : goal.invariant-loop-call
invariant-loop-call l = (l.actions.items ++ placed_from l.packet (drop l.call-index l.calls) ≡ l.fn.actions.items ++ placed_from 0 l.calls) × (l.packet ≤ l.call-index)

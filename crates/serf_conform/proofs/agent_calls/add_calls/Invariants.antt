use Rattle.serf_conform.proofs.Names.{take, ◌++◌, ◌≡◌}
use Rattle.serf_conform.proofs.agent_calls.add_calls.Given as goal

abbrev pub invariant-loop-call : goal.invariant-loop-call
invariant-loop-call l = l.to.items ≡ l.fn.to.items ++ take l.call-index l.calls

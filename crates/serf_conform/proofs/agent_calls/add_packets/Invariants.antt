use Rattle.serf_conform.proofs.Names.{take, ◌++◌, ◌≡◌, flat_map, injections_of}
use Rattle.serf_conform.proofs.agent_calls.add_packets.Given as goal

abbrev pub invariant-loop-call : goal.invariant-loop-call
invariant-loop-call l = l.actions.items ≡ l.fn.actions.items ++ flat_map injections_of (take l.call-index l.calls)

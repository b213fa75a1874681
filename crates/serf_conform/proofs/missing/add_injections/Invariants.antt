use Rattle.serf_conform.proofs.Names.{take, ◌++◌, ◌≡◌, flat_map, injections_of}
use Rattle.serf_conform.proofs.missing.add_injections.Given as goal

abbrev pub invariant-loop-own : goal.invariant-loop-own
invariant-loop-own l = l.actions.items ≡ l.fn.actions.items ++ flat_map (λ c. injections_of c.call) (take l.own-index l.calls)

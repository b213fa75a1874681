use Rattle.serf_agent_c.proofs.Names.{length, ◌-◌, ◌≡◌}
use Rattle.std.specs.Prelude.{◌^◌, min}
use Rattle.serf_agent_c.proofs.lookups.count.Given as goal

abbrev pub invariant-loop-query : goal.invariant-loop-query
invariant-loop-query l = l.n ≡ min (length l.yielded) (2 ^ 64 - 1)

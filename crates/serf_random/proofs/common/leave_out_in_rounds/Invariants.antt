use Rattle.serf_random.proofs.Names.{length, ◌≤◌}
use Rattle.serf_random.proofs.common.leave_out_in_rounds.Given as goal

abbrev pub invariant-loop-round : goal.invariant-loop-round
invariant-loop-round l = length l.kept.items ≤ length l.fn.actions.items

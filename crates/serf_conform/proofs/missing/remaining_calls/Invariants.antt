use Rattle.serf_conform.proofs.Names.{length, ◌++◌, ◌≡◌, ◌≤◌, turns_from, left_in}
use Rattle.serf_conform.proofs.missing.remaining_calls.Given as goal

-- the calls so far, and those of the turns that are left
abbrev pub invariant-turns : goal.invariant-turns
invariant-turns l = (l.calls.items ++ left_in l.missing (turns_from l.count l.sent l.actions l.lines) ≡ left_in l.missing (turns_from 0 l.sent l.fn.actions l.fn.lines)) × (l.count ≤ length l.sent)

abbrev pub decreases-turns : goal.decreases-turns
decreases-turns l = length l.actions

use Rattle.serf_random.proofs.Names.{length, ◌+◌, ◌≤◌, into_iter_items}
use Rattle.serf_random.proofs.common.round.Given as goal

-- No more actions are kept than were done.
abbrev pub invariant-loop-action : goal.invariant-loop-action
invariant-loop-action l = length l.kept.items + length (into_iter_items l.action-iterator) ≤ length l.fn.actions.items

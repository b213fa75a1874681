use Rattle.serf_random.proofs.Names.{length, ◌+◌, ◌≤◌, into_iter_items, IsAlong}
use Rattle.serf_random.proofs.common.add_common.Given as goal

-- The world has done what is kept, and no more actions are kept than were done.
abbrev pub invariant-loop-action : goal.invariant-loop-action
invariant-loop-action l = record {
  along : IsAlong l.agents l.fn.text.items l.text.items l.kept.items l.world;
  few : length l.kept.items + length (into_iter_items l.action-iterator) ≤ length l.fn.actions.items;
}

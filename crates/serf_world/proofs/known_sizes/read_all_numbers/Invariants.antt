use Rattle.serf_world.proofs.Names.{ℕ, ◌<◌, slice_index_or, HasSizes, Action}
use Rattle.serf_world.proofs.known_sizes.read_all_numbers.Given as goal

-- the numbers of the actions so far fit into their types
abbrev pub invariant-loop-action : goal.invariant-loop-action
invariant-loop-action l = (k : ℕ) (d : Action) → k < l.action-index → HasSizes (slice_index_or l.actions k d)

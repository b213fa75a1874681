use Rattle.serf_world.proofs.Names.{ℕ, ◌<◌, slice_index_or, BringsTold, Action}
use Rattle.serf_world.proofs.known_sizes.inspect_all.Given as goal

-- what the actions so far inject or fire can be written in lines
abbrev pub invariant-loop-action : goal.invariant-loop-action
invariant-loop-action l = (k : ℕ) (d : Action) → k < l.action-index → BringsTold (slice_index_or l.actions k d)

use Rattle.serf_world.proofs.Names.{[], take, ◌≡◌, fold, Run, after, AreRepresentable, IsAt, IsViewed}
use Rattle.serf_world.proofs.running.run_in.Given as goal

-- the world and the lines are those of the actions so far
abbrev pub invariant-loop-action : goal.invariant-loop-action
invariant-loop-action l = (r : Run) → IsViewed r.cluster l.initial.world → AreRepresentable r.cluster → r.turns ≡ [] → IsAt (fold after r (take l.action-index l.actions)) l.world l.lines.items

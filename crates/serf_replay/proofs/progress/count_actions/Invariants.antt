use Rattle.serf_replay.proofs.Names.{length}
use Rattle.serf_replay.proofs.progress.count_actions.Given as goal

abbrev pub invariant-lines : goal.invariant-lines
invariant-lines l = Unit {0}

abbrev pub decreases-lines : goal.decreases-lines
decreases-lines l = length l.rest

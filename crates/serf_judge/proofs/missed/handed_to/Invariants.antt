use Rattle.serf_judge.proofs.Names.{take, HasHanded}
use Rattle.serf_judge.proofs.missed.handed_to.Given as goal

abbrev pub invariant-loop-entry : goal.invariant-loop-entry
invariant-loop-entry l = HasHanded (take l.entry-index l.entries) l.handed

use Rattle.serf_judge.proofs.Names.{take, AreRecorded}
use Rattle.serf_judge.proofs.fired.first_unfired.Given as goal

abbrev pub invariant-loop-entry : goal.invariant-loop-entry
invariant-loop-entry l = AreRecorded l.starts (take l.entry-index l.fired) l.table

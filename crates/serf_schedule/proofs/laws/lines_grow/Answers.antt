use Rattle.serf_schedule.proofs.GrownLaws.{grown, late-same}
use Rattle.serf_schedule.proofs.laws.lines_grow.Goals as goal

pub returns-clause-grow : goal.returns-clause-grow
returns-clause-grow c = grown

pub returns-clause-late : goal.returns-clause-late
returns-clause-late c = late-same

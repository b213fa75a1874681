use Rattle.serf_snapshot.proofs.ReadLaws.{events-read, lowest-read, queries-read}
use Rattle.serf_snapshot.proofs.laws.read_laws.Goals as goal

pub returns-clause-events : goal.returns-clause-events
returns-clause-events c = events-read

pub returns-clause-queries : goal.returns-clause-queries
returns-clause-queries c = queries-read

pub returns-clause-lowest : goal.returns-clause-lowest
returns-clause-lowest c = lowest-read

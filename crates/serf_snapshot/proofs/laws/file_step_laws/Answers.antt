use Rattle.serf_snapshot.proofs.FileStepLaws.{reports-all, starts-tracking}
use Rattle.serf_snapshot.proofs.UntrackedLaws.{silent-alive, silent-both, silent-clock_line, silent-kept_clock_line, silent-min_line, silent-not_alive, silent-query_line}
use Rattle.serf_snapshot.proofs.laws.file_step_laws.Goals as goal

pub returns-clause-starts : goal.returns-clause-starts
returns-clause-starts c = starts-tracking

pub returns-clause-reports : goal.returns-clause-reports
returns-clause-reports c = reports-all

pub returns-clause-clock_line : goal.returns-clause-clock_line
returns-clause-clock_line c = silent-clock_line

pub returns-clause-kept_clock_line : goal.returns-clause-kept_clock_line
returns-clause-kept_clock_line c = silent-kept_clock_line

pub returns-clause-lowest : goal.returns-clause-lowest
returns-clause-lowest c = silent-min_line

pub returns-clause-query : goal.returns-clause-query
returns-clause-query c = silent-query_line

pub returns-clause-alive : goal.returns-clause-alive
returns-clause-alive c = silent-alive

pub returns-clause-not_alive : goal.returns-clause-not_alive
returns-clause-not_alive c = silent-not_alive

pub returns-clause-both : goal.returns-clause-both
returns-clause-both c = silent-both

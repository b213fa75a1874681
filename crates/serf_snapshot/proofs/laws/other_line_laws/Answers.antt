use Rattle.serf_snapshot.proofs.Names.{refl}
use Rattle.serf_snapshot.proofs.OtherLineLaws.{others-both, others-open_lines, others-written, own-clock_line, own-event_line, own-kept_clock_line, own-min_line, own-query_line}
use Rattle.serf_snapshot.proofs.laws.other_line_laws.Goals as goal

pub returns-clause-alive : goal.returns-clause-alive
returns-clause-alive c = λ rest. refl

pub returns-clause-not_alive : goal.returns-clause-not_alive
returns-clause-not_alive c = λ rest. refl

pub returns-clause-begun : goal.returns-clause-begun
returns-clause-begun c = λ rest. refl

pub returns-clause-done : goal.returns-clause-done
returns-clause-done c = λ rest. refl

pub returns-clause-opened : goal.returns-clause-opened
returns-clause-opened c = λ rest. refl

pub returns-clause-clock_line : goal.returns-clause-clock_line
returns-clause-clock_line c = own-clock_line

pub returns-clause-kept_clock_line : goal.returns-clause-kept_clock_line
returns-clause-kept_clock_line c = own-kept_clock_line

pub returns-clause-lowest : goal.returns-clause-lowest
returns-clause-lowest c = own-min_line

pub returns-clause-event : goal.returns-clause-event
returns-clause-event c = own-event_line

pub returns-clause-query : goal.returns-clause-query
returns-clause-query c = own-query_line

pub returns-clause-written : goal.returns-clause-written
returns-clause-written c = others-written

pub returns-clause-both : goal.returns-clause-both
returns-clause-both c = others-both

pub returns-clause-open_lines : goal.returns-clause-open_lines
returns-clause-open_lines c = others-open_lines

use Rattle.serf_snapshot.proofs.EventLineLaws.{events-line, events-torn, events-grow, events-sealed, length-event_line, last_clock-skipped}
use Rattle.serf_snapshot.proofs.laws.event_line_laws.Goals as goal

pub returns-clause-written : goal.returns-clause-written
returns-clause-written c = events-line

pub returns-clause-torn : goal.returns-clause-torn
returns-clause-torn c = events-torn

pub returns-clause-grow : goal.returns-clause-grow
returns-clause-grow c = events-grow

pub returns-clause-sealed : goal.returns-clause-sealed
returns-clause-sealed c = events-sealed

pub returns-clause-length : goal.returns-clause-length
returns-clause-length c = length-event_line

pub returns-clause-skipped : goal.returns-clause-skipped
returns-clause-skipped c = last_clock-skipped

use Rattle.serf_snapshot.proofs.EventLineLaws.{queries-line, queries-torn, queries-grow, queries-sealed, length-query_line}
use Rattle.serf_snapshot.proofs.laws.query_line_laws.Goals as goal

pub returns-clause-written : goal.returns-clause-written
returns-clause-written c = queries-line

pub returns-clause-torn : goal.returns-clause-torn
returns-clause-torn c = queries-torn

pub returns-clause-grow : goal.returns-clause-grow
returns-clause-grow c = queries-grow

pub returns-clause-sealed : goal.returns-clause-sealed
returns-clause-sealed c = queries-sealed

pub returns-clause-length : goal.returns-clause-length
returns-clause-length c = length-query_line

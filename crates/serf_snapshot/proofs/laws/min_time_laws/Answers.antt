use Rattle.serf_snapshot.proofs.MinTimeLaws.{lowest-grows, lowest-joined, lowest-sealed, lowest-own, lowest-other, lowest-event, lowest-query, lowest-clock_line, lowest-other_clock_line, lowest-kept_clock, last_clock-kept_line, last_clock-kept_other}
use Rattle.serf_snapshot.proofs.laws.min_time_laws.Goals as goal

pub returns-clause-grows : goal.returns-clause-grows
returns-clause-grows c = lowest-grows

pub returns-clause-joined : goal.returns-clause-joined
returns-clause-joined c = lowest-joined

pub returns-clause-sealed : goal.returns-clause-sealed
returns-clause-sealed c = lowest-sealed

pub returns-clause-own_line : goal.returns-clause-own_line
returns-clause-own_line c = lowest-own

pub returns-clause-other_line : goal.returns-clause-other_line
returns-clause-other_line c = lowest-other

pub returns-clause-event : goal.returns-clause-event
returns-clause-event c = lowest-event

pub returns-clause-query : goal.returns-clause-query
returns-clause-query c = lowest-query

pub returns-clause-clock_line : goal.returns-clause-clock_line
returns-clause-clock_line c = lowest-clock_line

pub returns-clause-other_clock_line : goal.returns-clause-other_clock_line
returns-clause-other_clock_line c = lowest-other_clock_line

pub returns-clause-kept_clock_line : goal.returns-clause-kept_clock_line
returns-clause-kept_clock_line c = lowest-kept_clock

pub returns-clause-same_clock : goal.returns-clause-same_clock
returns-clause-same_clock c = last_clock-kept_line

pub returns-clause-other_clock : goal.returns-clause-other_clock
returns-clause-other_clock c = last_clock-kept_other

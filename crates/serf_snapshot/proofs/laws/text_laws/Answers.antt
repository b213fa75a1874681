use Rattle.serf_snapshot.proofs.ClockLaws.{last_clock_grows, last_clock-below, last_clock-line, last_clock-other_line, is_whole-line, last_clock-sealed, is_whole-sealed, last_clock-compacted, is_whole-compacted}
use Rattle.serf_snapshot.proofs.laws.text_laws.Goals as goal

pub returns-clause-grows : goal.returns-clause-grows
returns-clause-grows c = last_clock_grows

pub returns-clause-below : goal.returns-clause-below
returns-clause-below c = last_clock-below

pub returns-clause-own_line : goal.returns-clause-own_line
returns-clause-own_line c = last_clock-line

pub returns-clause-other_line : goal.returns-clause-other_line
returns-clause-other_line c = last_clock-other_line

pub returns-clause-line_whole : goal.returns-clause-line_whole
returns-clause-line_whole c = is_whole-line

pub returns-clause-sealed : goal.returns-clause-sealed
returns-clause-sealed c = last_clock-sealed

pub returns-clause-sealed_whole : goal.returns-clause-sealed_whole
returns-clause-sealed_whole c = is_whole-sealed

pub returns-clause-compacted : goal.returns-clause-compacted
returns-clause-compacted c = last_clock-compacted

pub returns-clause-compacted_whole : goal.returns-clause-compacted_whole
returns-clause-compacted_whole c = is_whole-compacted

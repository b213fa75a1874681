use Rattle.serf_snapshot.proofs.SaidLaws.{asked-clock_line, asked-compacted, asked-event_line, asked-joined, asked-kept_clock_line, asked-kept_compaction, asked-min_line, asked-query_line}
use Rattle.serf_snapshot.proofs.laws.said_query_laws.Goals as goal

pub returns-clause-joined : goal.returns-clause-joined
returns-clause-joined c = asked-joined

pub returns-clause-event : goal.returns-clause-event
returns-clause-event c = asked-event_line

pub returns-clause-query : goal.returns-clause-query
returns-clause-query c = asked-query_line

pub returns-clause-lowest : goal.returns-clause-lowest
returns-clause-lowest c = asked-min_line

pub returns-clause-clock_line : goal.returns-clause-clock_line
returns-clause-clock_line c = asked-clock_line

pub returns-clause-kept_clock_line : goal.returns-clause-kept_clock_line
returns-clause-kept_clock_line c = asked-kept_clock_line

pub returns-clause-compacted : goal.returns-clause-compacted
returns-clause-compacted c = asked-compacted

pub returns-clause-kept_compacted : goal.returns-clause-kept_compacted
returns-clause-kept_compacted c = asked-kept_compaction

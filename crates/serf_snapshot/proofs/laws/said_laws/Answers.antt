use Rattle.serf_snapshot.proofs.KeptAppendLineLaws.{is_whole-kept_compaction}
use Rattle.serf_snapshot.proofs.SaidLaws.{said-clock_line, said-compacted, said-event_line, said-joined, said-kept_clock_line, said-kept_compaction, said-min_line, said-query_line}
use Rattle.serf_snapshot.proofs.laws.said_laws.Goals as goal

pub returns-clause-joined : goal.returns-clause-joined
returns-clause-joined c = said-joined

pub returns-clause-event : goal.returns-clause-event
returns-clause-event c = said-event_line

pub returns-clause-query : goal.returns-clause-query
returns-clause-query c = said-query_line

pub returns-clause-lowest : goal.returns-clause-lowest
returns-clause-lowest c = said-min_line

pub returns-clause-clock_line : goal.returns-clause-clock_line
returns-clause-clock_line c = said-clock_line

pub returns-clause-kept_clock_line : goal.returns-clause-kept_clock_line
returns-clause-kept_clock_line c = said-kept_clock_line

pub returns-clause-compacted : goal.returns-clause-compacted
returns-clause-compacted c = said-compacted

pub returns-clause-kept_compacted : goal.returns-clause-kept_compacted
returns-clause-kept_compacted c = said-kept_compaction

pub returns-clause-kept_compacted_whole : goal.returns-clause-kept_compacted_whole
returns-clause-kept_compacted_whole c = is_whole-kept_compaction

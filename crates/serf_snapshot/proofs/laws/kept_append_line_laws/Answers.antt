use Rattle.serf_snapshot.proofs.KeptAppendLineLaws.{event-no_clock, is_whole-append, is_whole-kept_line, lowest-no_clock, no_clock-append, query-no_clock, sound-kept_compacted, sound-kept_compaction_failed, sound-kept_failed, sound-kept_appended}
use Rattle.serf_snapshot.proofs.laws.kept_append_line_laws.Goals as goal

pub returns-clause-noted : goal.returns-clause-noted
returns-clause-noted c = sound-kept_appended

pub returns-clause-append_line_failed : goal.returns-clause-append_line_failed
returns-clause-append_line_failed c = sound-kept_failed

pub returns-clause-compacted : goal.returns-clause-compacted
returns-clause-compacted c = sound-kept_compacted

pub returns-clause-compaction_failed : goal.returns-clause-compaction_failed
returns-clause-compaction_failed c = sound-kept_compaction_failed

pub returns-clause-event : goal.returns-clause-event
returns-clause-event c = event-no_clock

pub returns-clause-query : goal.returns-clause-query
returns-clause-query c = query-no_clock

pub returns-clause-lowest : goal.returns-clause-lowest
returns-clause-lowest c = lowest-no_clock

pub returns-clause-both : goal.returns-clause-both
returns-clause-both c = no_clock-append

pub returns-clause-clock_line_whole : goal.returns-clause-clock_line_whole
returns-clause-clock_line_whole c = is_whole-kept_line

pub returns-clause-whole : goal.returns-clause-whole
returns-clause-whole c = is_whole-append

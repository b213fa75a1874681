use Rattle.serf_snapshot.proofs.AppendLineLaws.{sound-noted, sound-failed, sound-opened, sound-compacted, sound-compaction_failed, sound-planned}
use Rattle.serf_snapshot.proofs.laws.snapshot_laws.Goals as goal

pub returns-clause-opened : goal.returns-clause-opened
returns-clause-opened c = sound-opened

pub returns-clause-noted : goal.returns-clause-noted
returns-clause-noted c = sound-noted

pub returns-clause-append_line_failed : goal.returns-clause-append_line_failed
returns-clause-append_line_failed c = sound-failed

pub returns-clause-compacted : goal.returns-clause-compacted
returns-clause-compacted c = sound-compacted

pub returns-clause-compaction_failed : goal.returns-clause-compaction_failed
returns-clause-compaction_failed c = sound-compaction_failed

pub returns-clause-planned : goal.returns-clause-planned
returns-clause-planned c = sound-planned

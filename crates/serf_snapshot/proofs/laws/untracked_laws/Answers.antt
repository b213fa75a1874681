use Rattle.serf_snapshot.proofs.UntrackedLaws.{leaves-untracked, untracked-both, untracked-clock_line, untracked-compacted, untracked-event_line, untracked-kept_clock_line, untracked-kept_compacted, untracked-min_line, untracked-query_line}
use Rattle.serf_snapshot.proofs.laws.untracked_laws.Goals as goal

pub returns-clause-leaves : goal.returns-clause-leaves
returns-clause-leaves c = leaves-untracked

pub returns-clause-event : goal.returns-clause-event
returns-clause-event c = untracked-event_line

pub returns-clause-query : goal.returns-clause-query
returns-clause-query c = untracked-query_line

pub returns-clause-lowest : goal.returns-clause-lowest
returns-clause-lowest c = untracked-min_line

pub returns-clause-clock_line : goal.returns-clause-clock_line
returns-clause-clock_line c = untracked-clock_line

pub returns-clause-kept_clock_line : goal.returns-clause-kept_clock_line
returns-clause-kept_clock_line c = untracked-kept_clock_line

pub returns-clause-both : goal.returns-clause-both
returns-clause-both c = untracked-both

pub returns-clause-compacted : goal.returns-clause-compacted
returns-clause-compacted c = untracked-compacted

pub returns-clause-kept_compacted : goal.returns-clause-kept_compacted
returns-clause-kept_compacted c = untracked-kept_compacted

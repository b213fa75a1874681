use Rattle.serf_snapshot.proofs.HandlerLaws.{begun-only-if-said, events-are-handed, never-waits-again, reported-or-done, waits-or-began}
use Rattle.serf_snapshot.proofs.laws.handler_laws.Goals as goal

pub returns-clause-handed : goal.returns-clause-handed
returns-clause-handed c = events-are-handed

pub returns-clause-reported : goal.returns-clause-reported
returns-clause-reported c = reported-or-done

pub returns-clause-begun : goal.returns-clause-begun
returns-clause-begun c = begun-only-if-said

pub returns-clause-waits : goal.returns-clause-waits
returns-clause-waits c = waits-or-began

pub returns-clause-once : goal.returns-clause-once
returns-clause-once c = never-waits-again

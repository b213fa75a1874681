use Rattle.serf_agent.proofs.LifeLaws.{Below, flushed_there, later, once, queries_later, queries_once}
use Rattle.serf_agent.proofs.laws.life_promises.Goals as goal

below : goal.After-kept_restart_laws → Below
below c = record { times = c.text_laws.ensures.below; grows = c.text_laws.ensures.grows; ranged = c.decoded_ranges.ensures; snapshots = c.sound_snapshots.ensures; restart = c.kept_restart_laws.ensures }

pub returns-clause-once : goal.returns-clause-once
returns-clause-once c = once (below c)

pub returns-clause-queries_once : goal.returns-clause-queries_once
returns-clause-queries_once c = queries_once (below c)

pub returns-clause-later : goal.returns-clause-later
returns-clause-later c = later (below c)

pub returns-clause-queries_later : goal.returns-clause-queries_later
returns-clause-queries_later c = queries_later (below c)

pub returns-clause-flushed : goal.returns-clause-flushed
returns-clause-flushed c = flushed_there (below c)

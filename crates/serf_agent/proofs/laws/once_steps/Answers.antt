use Rattle.serf_agent.proofs.LifeLaws.{Below, asks_after, begins_once, begins_sound, fires_after, stays_once, steps_sound}
use Rattle.serf_agent.proofs.laws.once_steps.Goals as goal

below : goal.After-kept_restart_laws → Below
below c = record { times = c.text_laws.ensures.below; grows = c.text_laws.ensures.grows; ranged = c.decoded_ranges.ensures; snapshots = c.sound_snapshots.ensures; restart = c.kept_restart_laws.ensures }

pub returns-clause-stays : goal.returns-clause-stays
returns-clause-stays c = stays_once (below c)

pub returns-clause-begins : goal.returns-clause-begins
returns-clause-begins c = begins_once

pub returns-clause-fires : goal.returns-clause-fires
returns-clause-fires c = fires_after

pub returns-clause-asks : goal.returns-clause-asks
returns-clause-asks c = asks_after

pub returns-clause-sound : goal.returns-clause-sound
returns-clause-sound c = steps_sound (below c)

pub returns-clause-begins_sound : goal.returns-clause-begins_sound
returns-clause-begins_sound c = begins_sound (below c)

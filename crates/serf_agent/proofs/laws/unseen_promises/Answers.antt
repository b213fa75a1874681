use Rattle.serf_agent.proofs.UnseenLaws as unseen
use Rattle.serf_agent.proofs.laws.unseen_promises.Goals as goal

below : goal.After-kept_life_promises → unseen.BelowUnseen
below c =
    let promised = c.kept_life_promises.ensures in
    record {
      life = record { times = c.text_laws.ensures.below; grows = c.text_laws.ensures.grows; ranged = c.decoded_ranges.ensures; snapshots = c.sound_snapshots.ensures; restart = c.kept_restart_laws.ensures };
      begins = promised.begins;
      stays = promised.stays;
      following = promised.following;
      suffices = promised.suffices;
    }

pub returns-clause-once : goal.returns-clause-once
returns-clause-once c = unseen.once_unseen (below c)

pub returns-clause-queries_once : goal.returns-clause-queries_once
returns-clause-queries_once c = unseen.queries_once_unseen (below c)

pub returns-clause-later : goal.returns-clause-later
returns-clause-later c = unseen.later_unseen (below c)

pub returns-clause-queries_later : goal.returns-clause-queries_later
returns-clause-queries_later c = unseen.queries_later_unseen (below c)

pub returns-clause-handed_out : goal.returns-clause-handed_out
returns-clause-handed_out c = unseen.new_unseen c.kept_life_promises.ensures.handed_out

pub returns-clause-queries_taken : goal.returns-clause-queries_taken
returns-clause-queries_taken c = unseen.queries_unseen c.kept_life_promises.ensures.queries_taken

pub returns-clause-remembered : goal.returns-clause-remembered
returns-clause-remembered c = unseen.joins_unseen c.kept_life_promises.ensures.remembered

pub returns-clause-opens : goal.returns-clause-opens
returns-clause-opens c = unseen.opens_unseen (below c)

pub returns-clause-opens_after : goal.returns-clause-opens_after
returns-clause-opens_after c = unseen.opens_after (below c)

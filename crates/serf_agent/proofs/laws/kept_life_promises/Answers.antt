use Rattle.serf_agent.proofs.HandsOutLaws.{BelowHandsOut}
use Rattle.serf_agent.proofs.JoinLaws.{remembers_joins}
use Rattle.serf_agent.proofs.KeptLifeLaws as lives
use Rattle.serf_agent.proofs.OfferLaws.{hands_out_new, takes_new_queries, taking_events, taking_queries}
use Rattle.serf_agent.proofs.SaidQueries.{said_laws}
use Rattle.serf_agent.proofs.laws.kept_life_promises.Goals as goal

below : goal.After-unkept_laws → lives.BelowKeptLives
below c = record {
  life = record { times = c.text_laws.ensures.below; grows = c.text_laws.ensures.grows; ranged = c.decoded_ranges.ensures; snapshots = c.sound_snapshots.ensures; restart = c.kept_restart_laws.ensures };
  durable = record {
    steps = c.kept_step_laws.ensures;
    unkept = c.unkept_laws.ensures;
    compactions = c.kept_compaction_laws.ensures;
    restart = c.kept_restart_laws.ensures;
    events = c.keeping_laws.ensures.events;
    queries = c.keeping_laws.ensures.queries;
    recalled_events = c.recall_laws.ensures.events;
    recalled_queries = c.recall_laws.ensures.queries;
    event_texts = c.kept_text_laws.ensures.events;
    query_texts = c.kept_text_laws.ensures.queries;
    min_grows = c.min_time_laws.ensures.grows;
    times = c.text_laws.ensures.below;
    events_read = c.read_laws.ensures.events;
    queries_read = c.read_laws.ensures.queries;
    min_read = c.read_laws.ensures.lowest;
  };
}

pub returns-clause-begins : goal.returns-clause-begins
returns-clause-begins c = lives.begins_durable (below c)

pub returns-clause-stays : goal.returns-clause-stays
returns-clause-stays c = lives.stays_durable (below c)

pub returns-clause-following : goal.returns-clause-following
returns-clause-following c = lives.keeps_after (below c)

pub returns-clause-kept : goal.returns-clause-kept
returns-clause-kept c = lives.durable_has_kept (below c)

pub returns-clause-suffices : goal.returns-clause-suffices
returns-clause-suffices c = lives.disk_suffices (below c)

below_offers : goal.After-unkept_laws → BelowHandsOut
below_offers c = record {
  kept = below c;
  event_slots = c.slot_laws.ensures.events;
  query_slots = c.slot_laws.ensures.queries;
  min_event = c.min_time_laws.ensures.event;
  min_query = c.min_time_laws.ensures.query;
  min_own = c.min_time_laws.ensures.own_line;
  min_other = c.min_time_laws.ensures.other_line;
  min_kept_clock = c.min_time_laws.ensures.kept_clock_line;
  min_other_clock = c.min_time_laws.ensures.other_clock_line;
  min_sealed = c.min_time_laws.ensures.sealed;
  event_whole = c.kept_append_line_laws.ensures.event;
  query_whole = c.kept_append_line_laws.ensures.query;
  min_whole = c.kept_append_line_laws.ensures.lowest;
  whole = c.kept_append_line_laws.ensures.whole;
  clock_whole = c.text_laws.ensures.line_whole;
  kept_clock_whole = c.kept_append_line_laws.ensures.clock_line_whole;
}

pub returns-clause-handed_out : goal.returns-clause-handed_out
returns-clause-handed_out c = hands_out_new (below_offers c)

pub returns-clause-remembered : goal.returns-clause-remembered
returns-clause-remembered c = remembers_joins (below_offers c)

pub returns-clause-queries_taken : goal.returns-clause-queries_taken
returns-clause-queries_taken c = takes_new_queries (below_offers c)

pub returns-clause-taking : goal.returns-clause-taking
returns-clause-taking c = taking_events (below_offers c)

pub returns-clause-queries_taking : goal.returns-clause-queries_taking
returns-clause-queries_taking c = taking_queries (below_offers c)

pub returns-clause-queries_said : goal.returns-clause-queries_said
returns-clause-queries_said c = said_laws (record {
  hands_out = below_offers c;
  joined = c.said_query_laws.ensures.joined;
  sealed = c.query_line_laws.ensures.sealed;
  sealed_whole = c.text_laws.ensures.sealed_whole;
  event_line = c.said_query_laws.ensures.event;
  query_line = c.said_query_laws.ensures.query;
  min_line = c.said_query_laws.ensures.lowest;
  clock_line = c.said_query_laws.ensures.clock_line;
  kept_clock_line = c.said_query_laws.ensures.kept_clock_line;
  compacted = c.said_query_laws.ensures.compacted;
  kept_compacted = c.said_query_laws.ensures.kept_compacted;
  compacted_whole = c.text_laws.ensures.compacted_whole;
  kept_compacted_whole = c.said_laws.ensures.kept_compacted_whole;
})

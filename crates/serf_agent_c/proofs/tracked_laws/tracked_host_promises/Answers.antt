use Rattle.serf_agent_c.proofs.HostedCalls.{Below}
use Rattle.serf_agent_c.proofs.TrackedBegins as begins
use Rattle.serf_agent_c.proofs.TrackedBounds as bounds
use Rattle.serf_agent_c.proofs.TrackedGiven as given
use Rattle.serf_agent_c.proofs.TrackedLaws as tracks
use Rattle.serf_agent_c.proofs.TrackedLines.{Handling}
use Rattle.serf_agent_c.proofs.tracked_laws.tracked_host_promises.Goals as goal

below : goal.After-decoded_ranges → Below
below c = record {
  once = c.once_steps.ensures.stays;
  fires = c.once_steps.ensures.fires;
  asks = c.once_steps.ensures.asks;
  sound = c.once_steps.ensures.sound;
  begins_sound = c.once_steps.ensures.begins_sound;
  durable = c.kept_life_promises.ensures.stays;
  begins_durable = c.kept_life_promises.ensures.begins;
  opens = c.unseen_promises.ensures.opens_after;
  bytes = c.decoded_texts.ensures;
  ranged = c.decoded_ranges.ensures;
  reading = record {
    clock_grows = c.text_laws.ensures.grows;
    min_grows = c.min_time_laws.ensures.grows;
    appended = c.other_lines_laws.ensures.appended;
    clocks = c.other_lines_laws.ensures.clocks;
    lowest = c.other_lines_laws.ensures.lowest;
    events = c.other_lines_laws.ensures.events;
    queries = c.other_lines_laws.ensures.queries;
  };
}

handling : goal.After-decoded_ranges → Handling
handling c = record {
  reports = c.file_step_laws.ensures.reports;
  starts = c.file_step_laws.ensures.starts;
  leaves = c.untracked_laws.ensures.leaves;
  never = c.handler_laws.ensures.once;
  silent_clock_line = c.file_step_laws.ensures.clock_line;
  silent_kept_clock_line = c.file_step_laws.ensures.kept_clock_line;
  silent_min_line = c.file_step_laws.ensures.lowest;
  silent_query_line = c.file_step_laws.ensures.query;
  untracked_event = c.untracked_laws.ensures.event;
  untracked_query = c.untracked_laws.ensures.query;
  untracked_min_line = c.untracked_laws.ensures.lowest;
  untracked_both = c.untracked_laws.ensures.both;
  untracked_compaction = c.untracked_laws.ensures.kept_compacted;
  sealed_whole = c.text_laws.ensures.sealed_whole;
  inserted = c.other_lines_laws.ensures.inserted;
  appended = c.other_lines_laws.ensures.appended;
  itself = c.other_lines_laws.ensures.itself;
  joined = c.other_lines_laws.ensures.joined;
  other_done = c.other_line_laws.ensures.done;
  other_written = c.other_line_laws.ensures.written;
  other_both = c.other_line_laws.ensures.both;
  other_open_lines = c.other_line_laws.ensures.open_lines;
}

pub returns-clause-silence : goal.returns-clause-silence
returns-clause-silence c = tracks.no_silence (below c) (handling c)

pub returns-clause-given : goal.returns-clause-given
returns-clause-given c = given.gives_handed (below c) (handling c)

pub returns-clause-new : goal.returns-clause-new
returns-clause-new c = begins.hands_out_new (below c) (handling c)

pub returns-clause-begins_once : goal.returns-clause-begins_once
returns-clause-begins_once c = begins.begins_once (below c) (handling c)

pub returns-clause-bounded : goal.returns-clause-bounded
returns-clause-bounded c = bounds.open_bounded (tracks.no_silence (below c) (handling c))

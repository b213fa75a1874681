use Rattle.serf_snapshot.specs.declared.kind.ClockKind.TheVariants as kinds
use Rattle.serf_agent_c.proofs.Names.{event_kind, query_kind}
use Rattle.serf_agent_c.proofs.HostedCalls.{Below}
use Rattle.serf_agent_c.proofs.HostedKept as kept
use Rattle.serf_agent_c.proofs.HostedLaws as hosts
use Rattle.serf_agent_c.proofs.HostedMerges as merges
use Rattle.serf_agent_c.proofs.laws.host_promises.Goals as goal

below : goal.After-decoded_ranges → Below
below c = record {
  once = c.once_steps.ensures.stays;
  fires = c.once_steps.ensures.fires;
  asks = c.once_steps.ensures.asks;
  sound = c.once_steps.ensures.sound;
  begins_sound = c.once_steps.ensures.begins_sound;
  durable = c.kept_life_promises.ensures.stays;
  begins_durable = c.kept_life_promises.ensures.begins;
  opens = c.unseen_promises.ensures.opens_after;
  bytes = c.decoded_texts.ensures;
  ranged = c.decoded_ranges.ensures;
  reading = record {
    clock_grows = c.text_laws.ensures.grows;
    min_grows = c.min_time_laws.ensures.grows;
    appended = c.other_lines_laws.ensures.appended;
    clocks = c.other_lines_laws.ensures.clocks;
    lowest = c.other_lines_laws.ensures.lowest;
    events = c.other_lines_laws.ensures.events;
    queries = c.other_lines_laws.ensures.queries;
  };
}

pub returns-clause-once : goal.returns-clause-once
returns-clause-once c = hosts.gives_once (below c)

pub returns-clause-queries_once : goal.returns-clause-queries_once
returns-clause-queries_once c = hosts.gives_queries_once (below c)

pub returns-clause-later : goal.returns-clause-later
returns-clause-later c = hosts.gives_later (below c)

pub returns-clause-queries_later : goal.returns-clause-queries_later
returns-clause-queries_later c = hosts.gives_queries_later (below c)

pub returns-clause-later_in_bursts : goal.returns-clause-later_in_bursts
returns-clause-later_in_bursts c = hosts.gives_later_in_bursts (below c)

pub returns-clause-queries_later_in_bursts : goal.returns-clause-queries_later_in_bursts
returns-clause-queries_later_in_bursts c = hosts.gives_queries_later_in_bursts (below c)

pub returns-clause-exactly : goal.returns-clause-exactly
returns-clause-exactly c = hosts.gives_exactly (below c)

pub returns-clause-kept : goal.returns-clause-kept
returns-clause-kept c = let track = kept.event_tracking c.kept_life_promises.ensures.taking in hosts.misses_none (below c) event_kind track (merges.state_offers (below c) track) (λ text. (c.read_laws.ensures.lowest kinds.Event text).0)

pub returns-clause-queries_kept : goal.returns-clause-queries_kept
returns-clause-queries_kept c =
    hosts.misses_none (below c) query_kind (kept.query_tracking c.kept_life_promises.ensures.queries_taking) (λ g id file s t met w packet join code offers says bytes other told short young new. absurd offers.1) (λ text. (c.read_laws.ensures.lowest kinds.Query text).0)

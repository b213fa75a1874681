-- What is true of every ideal agent, whatever calls were made.
use Rattle.std.specs.Prelude.{◌≡◌, ◌≢◌, ◌+◌, ◌<◌, ◌≤◌, true, length, All, AllPairs}
use Rattle.serf_lamport.specs.Clock.{max_clock}
use Rattle.serf_snapshot.specs.AppendsLine.{IsSnapshotSound}
use Rattle.serf_agent.specs.declared.open_query.OpenQuery.{OpenQuery}
use Rattle.serf_agent.specs.Config.{is_sound, max_text_bytes}
use Rattle.serf_agent.specs.Ideal.{IdealAgent}
use Rattle.serf_agent.specs.Tracks.{IsTrackSound}

-- each name appears once among an open query's acks, and once among its responses
pub record IsOpenQuerySound (q : OpenQuery) : Type 0 where
  pub acks : AllPairs (λ a b. a ≢ b) q.acks
  pub responses : AllPairs (λ a b. a.from ≢ b.from) q.responses

pub record IsSound (i : IdealAgent) : Type 0 where
  -- its settings are within their bounds
  pub config : is_sound i.config ≡ true
  -- the member clock is a u64
  pub member_clock : i.member_clock ≤ max_clock
  pub events : IsTrackSound i.events i.life i.snapshot.event_clock
  pub queries : IsTrackSound i.queries i.life i.snapshot.query_clock
  -- each event's name and payload are short
  pub short : All (λ p. length p.entry.key.name + length p.entry.key.payload ≤ max_text_bytes) i.events.history
  -- what the sink holds has the last lines
  pub snapshot : IsSnapshotSound i.snapshot
  -- the open queries have distinct times, each below the query clock
  pub fired_queries_below : All (λ q. q.0 < i.queries.clock) i.fired_queries
  pub fired_queries_distinct : AllPairs (λ p q. p.0 ≢ q.0) i.fired_queries
  pub fired_queries_sound : All (λ q. IsOpenQuerySound q.1) i.fired_queries

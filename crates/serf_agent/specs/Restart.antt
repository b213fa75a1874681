-- What the ideal agent is after it is opened again, or for the first time (`serf.go`, `Create`; `snapshot.go`,
-- `NewSnapshotter`).
use Rattle.std.specs.Prelude.{◌≡◌, ℕ, ◌+◌, ◌≤◌, Bool, true, if◌then◌else◌, List, [], All}
use Rattle.serf_window.specs.Queries.{same_id}
use Rattle.serf_window.specs.Texts.{same_texts}
use Rattle.serf_snapshot.specs.declared.kind.ClockKind.TheVariants.{Event, Query}
use Rattle.serf_snapshot.specs.Clocks.{last_clock}
use Rattle.serf_snapshot.specs.EventLines.{min_in}
use Rattle.serf_snapshot.specs.AppendsLine.{SnapshotView}
use Rattle.serf_agent.specs.declared.config.Config.{Config}
use Rattle.serf_agent.specs.Ideal.{IdealAgent}
use Rattle.serf_agent.specs.Keeping.{track_kept}
use Rattle.serf_agent.specs.KeptRestart.{HasKept, events_reached, queries_reached}
use Rattle.serf_agent.specs.Tracks.{track_reopened}

-- The agent in a new life, on this text and with its snapshot, with settings that keep events or don't. Each clock is
-- one above the last line of its kind. If the settings keep no events, the minimum times are one above these lines too.
-- Otherwise, what the text keeps enters again (specs/KeptRestart.antt). The agent remembers everything that was entered
-- in earlier lives, and has no open query.
abbrev pub restarted_by : Bool → List ℕ → SnapshotView → IdealAgent → IdealAgent
restarted_by keeps text s i =
    record {
      config = i.config;
      life = i.life + 1;
      member_clock = s.member_clock + 1;
      events = if keeps
          then track_kept same_texts i.config.event_buffer i.config.per_time (i.life + 1) s.event_clock (min_in Event text) (events_reached i.config s.event_clock text) i.events
          else track_reopened s.event_clock i.events;
      queries = if keeps
          then track_kept same_id i.config.query_buffer i.config.per_time (i.life + 1) s.query_clock (min_in Query text) (queries_reached i.config s.query_clock text) i.queries
          else track_reopened s.query_clock i.queries;
      snapshot = s;
      fired_queries = [];
    }

abbrev pub restarted : List ℕ → SnapshotView → IdealAgent → IdealAgent
restarted text s i = restarted_by i.config.keep_events text s i

-- a text has each time that was entered, or a later one
pub record IsInText (i : IdealAgent) (text : List ℕ) : Type 0 where
  pub events : All (λ p. p.entry.time ≤ last_clock Event text) i.events.history
  pub queries : All (λ p. p.entry.time ≤ last_clock Query text) i.queries.history

-- A text has what an agent needs to continue from it with these settings: the times and, if the settings keep events,
-- everything that was entered.
pub record HasPast (config : Config) (i : IdealAgent) (text : List ℕ) : Type 0 where
  pub times : IsInText i text
  pub kept : config.keep_events ≡ true → HasKept i text

-- the agent before its first life, which has entered nothing
abbrev pub unopened : Config → SnapshotView → IdealAgent
unopened config s =
    record {
      config = config;
      life = 0;
      member_clock = s.member_clock + 1;
      events = record { clock = s.event_clock + 1; minimum = s.event_clock + 1; history = [] };
      queries = record { clock = s.query_clock + 1; minimum = s.query_clock + 1; history = [] };
      snapshot = s;
      fired_queries = [];
    }

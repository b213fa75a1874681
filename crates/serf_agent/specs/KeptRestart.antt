-- What the ideal agent is after it is opened again with settings that keep events, and what a text must have for that.
use Rattle.std.specs.Prelude.{◌≡◌, ◌+◌, ℕ, List, [], Some}
use Rattle.serf_wire.specs.declared.texts.EventBody.{EventBody}
use Rattle.serf_window.specs.Queries.{same_id}
use Rattle.serf_window.specs.Texts.{same_texts}
use Rattle.serf_window.specs.Window.{TimedEntry}
use Rattle.serf_snapshot.specs.declared.kind.ClockKind.TheVariants as kinds
use Rattle.serf_snapshot.specs.EventLines.{min_in}
use Rattle.serf_snapshot.specs.AppendsLine.{SnapshotView}
use Rattle.serf_agent.specs.declared.config.Config.{Config}
use Rattle.serf_agent.specs.Ideal.{IdealAgent}
use Rattle.serf_agent.specs.Keeping.{track_kept}
use Rattle.serf_agent.specs.KeptTexts.{AreKept, kept_events, kept_queries, within_reach}

-- What an opening restores from a text, of events and of queries, if the last line of their kind is this one.
abbrev pub events_reached : Config → ℕ → List ℕ → List (TimedEntry EventBody)
events_reached config last text = kept_events (within_reach config.event_buffer last (min_in kinds.Event text)) text

abbrev pub queries_reached : Config → ℕ → List ℕ → List (TimedEntry ℕ)
queries_reached config last text = kept_queries (within_reach config.query_buffer last (min_in kinds.Query text)) text

-- The agent in a new life, on this text and with its snapshot: each clock is one above the last line of its kind, and
-- what the text keeps enters again. It remembers everything that was entered in earlier lives, and has no open query.
abbrev pub restarted_kept : List ℕ → SnapshotView → IdealAgent → IdealAgent
restarted_kept text s i =
    record {
      config = i.config;
      life = i.life + 1;
      member_clock = s.member_clock + 1;
      events = track_kept same_texts i.config.event_buffer i.config.per_time (i.life + 1) s.event_clock (min_in kinds.Event text) (events_reached i.config s.event_clock text) i.events;
      queries = track_kept same_id i.config.query_buffer i.config.per_time (i.life + 1) s.query_clock (min_in kinds.Query text) (queries_reached i.config s.query_clock text) i.queries;
      snapshot = s;
      fired_queries = [];
    }

-- A text has everything that was entered: it keeps the entry, or its minimum time is above the entry's time.
pub record HasKept (i : IdealAgent) (text : List ℕ) : Type 0 where
  pub events : AreKept kinds.Event kept_events i.events.history text
  pub queries : AreKept kinds.Query kept_queries i.queries.history text

-- The durable text has everything that was entered, if the sink exposes it.
abbrev pub IsKeptSound : IdealAgent → Type 0
IsKeptSound i = (durable : List ℕ) → i.snapshot.durable ≡ Some durable → HasKept i durable

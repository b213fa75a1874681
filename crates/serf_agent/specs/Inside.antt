-- How an agent stores its state. This is private to the crate.
use Rattle.std.specs.Prelude.{◌≡◌, ℕ, ◌+◌, ◌-◌, ◌<◌, max, Bool, true, if◌then◌else◌, List, [], length, All, Some, slice_get}
use Rattle.indexmap.specs.IndexMap.{set_value_at}
use Rattle.serf_wire.specs.declared.texts.EventBody.{EventBody}
use Rattle.serf_window.specs.Queries.{same_id}
use Rattle.serf_window.specs.Texts.{same_texts}
use Rattle.serf_window.specs.Window.{TimedEntry, WindowOf, slots_of}
use Rattle.serf_snapshot.specs.declared.kind.ClockKind.TheVariants as kinds
use Rattle.serf_snapshot.specs.EventLines.{min_in}
use Rattle.serf_agent.specs.declared.config.Config.{Config}
use Rattle.serf_agent.specs.declared.open_query.OpenQuery.{OpenQuery}
use Rattle.serf_agent.specs.Config.{is_sound}
use Rattle.serf_agent.specs.Keeping.{opened_clock, taken_back}
use Rattle.serf_agent.specs.KeptRestart.{events_reached, queries_reached}
use Rattle.serf_agent.specs.Queries.{is_due}
use Rattle.serf_snapshot.specs.AppendsLine.{SnapshotView}
use Rattle.serf_agent.specs.Tracks.{ConcreteTrack}
use Rattle.serf_agent.specs.View.{ConcreteState}

-- what a track has: its clock, its minimum time, and its window
pub record TrackState (K : Type 0) : Type 0 where
  pub clock : ℕ
  pub minimum : ℕ
  pub window : WindowOf K

abbrev pub concrete_of : {K : Type 0} → TrackState K → ConcreteTrack K
concrete_of t = record { clock = t.clock; minimum = t.minimum; slots = t.window.slots }

-- an agent's parts match its settings, and its open queries have times below its query clock
pub record IsBuilt (config : Config) (events : TrackState EventBody) (queries : TrackState ℕ) (fired_queries : List (ℕ × OpenQuery)) : Type 0 where
  pub config_sound : is_sound config ≡ true
  pub event_size : length events.window.slots ≡ config.event_buffer
  pub event_per_time : events.window.per_time ≡ config.per_time
  pub query_size : length queries.window.slots ≡ config.query_buffer
  pub query_per_time : queries.window.per_time ≡ config.per_time
  pub fired_queries_below : All (λ q. q.0 < queries.clock) fired_queries

-- a track that holds nothing, above the last time of a text
abbrev pub new_track : {K : Type 0} → ℕ → ℕ → ConcreteTrack K
new_track n last = record { clock = last + 1; minimum = last + 1; slots = slots_of n [] }

-- A track at an opening, if a text has this last clock, this minimum time and these entries of its kind: it holds what
-- the buffer restores if the settings keep events, and otherwise nothing.
abbrev pub first_track : {K : Type 0} → Bool → (K → K → Bool) → ℕ → ℕ → ℕ → ℕ → List (TimedEntry K) → ConcreteTrack K
first_track keeps same n k last lowest kept =
    if keeps then (let back = taken_back same n k last lowest kept in
    record { clock = opened_clock last lowest; minimum = max back.minimum (opened_clock last lowest - n); slots = slots_of n back.entries })
    else new_track n last

abbrev pub first_events : Config → List ℕ → ℕ → ConcreteTrack EventBody
first_events config text last = first_track config.keep_events same_texts config.event_buffer config.per_time last (min_in kinds.Event text) (events_reached config last text)

abbrev pub first_queries : Config → List ℕ → ℕ → ConcreteTrack ℕ
first_queries config text last = first_track config.keep_events same_id config.query_buffer config.per_time last (min_in kinds.Query text) (queries_reached config last text)

-- what an agent stores at an opening on a text, with the last lines of its snapshot
abbrev pub first_concrete : Config → List ℕ → SnapshotView → ConcreteState
first_concrete config text s =
    record {
      config = config;
      member_clock = s.member_clock + 1;
      events = first_events config text s.event_clock;
      queries = first_queries config text s.query_clock;
      snapshot = s;
      fired_queries = [];
    }

-- the query at an index was due, and a query with the same time and deadline replaces it
pub record IsTaken (now index : ℕ) (taken : ℕ × OpenQuery) (old new : List (ℕ × OpenQuery)) : Type 0 where
  pub was : slice_get old index ≡ Some taken
  pub due : is_due now taken ≡ true
  pub left : OpenQuery
  pub same : left.deadline ≡ taken.1.deadline
  pub is : new ≡ set_value_at old index left

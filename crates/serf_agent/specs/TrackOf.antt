-- The two tracks of an agent, its events and its queries, as the parts from which a promise about both is built.
use Rattle.std.specs.Prelude.{◌≡◌, ◌&&◌, ◌≤◌, ℕ, Bool, true, List, [], ◌∷◌, Option, Result, Ok, Err}
use Rattle.serf_wire.specs.declared.error.WireError.{WireError}
use Rattle.serf_wire.specs.declared.texts.EventBody.{EventBody}
use Rattle.serf_wire.specs.Decoded.{decoded}
use Rattle.serf_wire.specs.Message.{Message, PushPull, query, user_event}
use Rattle.serf_window.specs.Window.{TimedEntry}
use Rattle.serf_snapshot.specs.declared.kept.EntryFilter.{EntryFilter}
use Rattle.serf_snapshot.specs.declared.kind.ClockKind.{ClockKind}
use Rattle.serf_snapshot.specs.declared.kind.ClockKind.TheVariants as kinds
use Rattle.serf_snapshot.specs.AppendsLine.{Kept}
use Rattle.serf_agent.specs.declared.config.Config.{Config}
use Rattle.serf_agent.specs.declared.outcome.FiredQuery.{FiredQuery}
use Rattle.serf_agent.specs.declared.outcome.Outcome.{Outcome}
use Rattle.serf_agent.specs.declared.outcome.Outcome.TheVariants as outcomes
use Rattle.serf_agent.specs.declared.outcome.QueryError.{QueryError}
use Rattle.serf_agent.specs.declared.outcome.Reason.{Reason}
use Rattle.serf_agent.specs.declared.outcome.ReceiveError.{ReceiveError}
use Rattle.serf_agent.specs.Calls.{ended}
use Rattle.serf_agent.specs.Config.{max_text_bytes}
use Rattle.serf_agent.specs.Events.{admission, texts_len}
use Rattle.serf_agent.specs.Ideal.{IdealAgent, Track}
use Rattle.serf_agent.specs.KeptTexts.{kept_events, kept_queries}
use Rattle.serf_agent.specs.Lives.{Act, Asks, Gets, Takes, events_out}
use Rattle.serf_agent.specs.Queries.{fire_query, query_admission}
use Rattle.serf_agent.specs.Receive.{receive}

pub record TrackOf (K : Type 0) : Type 1 where
  -- the track in an agent, the kind of its lines, and the size of its buffer
  pub track : IdealAgent → Track K
  pub kind : ClockKind
  pub slots : Config → ℕ
  -- what a text keeps of this track
  pub kept : EntryFilter → List ℕ → List (TimedEntry K)
  -- why an entry is ignored, and which entries aren't too long
  pub admission : IdealAgent → ℕ → K → Option Reason
  pub Short : K → Type 0
  -- what an act enters in this track
  pub entered : IdealAgent → Act → List (TimedEntry K)
  -- an act delivers an entry, in a packet or in a state, and the sink keeps its line
  pub Offers : TimedEntry K → Act → Type 0
  -- the state of another agent sets no minimum time above this, if an agent of these settings merges it
  pub HearsNoneAbove : ℕ → Config → PushPull → Bool → Type 0

-- Events

abbrev pub OffersEvent : TimedEntry EventBody → Act → Type 0
OffersEvent e (Takes offered Kept) = offered ≡ e
OffersEvent e (Gets tags now packet Kept) = (coalesce : Bool) × (decoded packet ≡ Ok (user_event (record { time = e.time; name = e.key.name; payload = e.key.payload; coalesce = coalesce })))
OffersEvent e a = ⊥

-- the events of an agent as a track; each event that enters is handed out
abbrev pub event_track : TrackOf EventBody
event_track = record {
  track = λ i. i.events;
  kind = kinds.Event;
  slots = λ config. config.event_buffer;
  kept = kept_events;
  admission = admission;
  Short = λ what. texts_len what ≤ max_text_bytes;
  entered = events_out;
  Offers = OffersEvent;
  HearsNoneAbove = λ t config m is_join. (is_join && config.ignore_old) ≡ true → m.event_clock ≤ t;
}

-- Queries

-- the query of a packet with this result, even if it isn't handed out because its filters exclude the node
abbrev pub got_query : Result Message WireError → Result Outcome ReceiveError → List (TimedEntry ℕ)
got_query (Ok (query q)) (Ok (outcomes.Query handed ack rebroadcast)) = record { time = q.time; key = q.id } ∷ []
got_query _ _ = []

abbrev pub asked_query : ℕ → Result FiredQuery QueryError → List (TimedEntry ℕ)
asked_query id (Ok f) = record { time = f.time; key = id } ∷ []
asked_query id (Err error) = []

-- the queries that enter, each as its time and ID
abbrev pub queries_entered : IdealAgent → Act → List (TimedEntry ℕ)
queries_entered i (Asks now id name payload params w) = asked_query id (ended i (fire_query i now id name payload params) w).answer
queries_entered i (Gets tags now packet w) = got_query (decoded packet) (ended i (receive tags i now packet) w).answer
queries_entered i _ = []

-- a packet contains a query of this time and ID
abbrev pub BringsQuery : TimedEntry ℕ → Result Message WireError → Type 0
BringsQuery e (Ok (query q)) = (q.time ≡ e.time) × (q.id ≡ e.key)
BringsQuery e _ = ⊥

abbrev pub OffersQuery : TimedEntry ℕ → Act → Type 0
OffersQuery e (Gets tags now packet Kept) = BringsQuery e (decoded packet)
OffersQuery e a = ⊥

-- the queries of an agent as a track; no state sets a minimum time of queries
abbrev pub query_track : TrackOf ℕ
query_track = record {
  track = λ i. i.queries;
  kind = kinds.Query;
  slots = λ config. config.query_buffer;
  kept = kept_queries;
  admission = query_admission;
  Short = λ id. Unit {0};
  entered = queries_entered;
  Offers = OffersQuery;
  HearsNoneAbove = λ t config m is_join. Unit {0};
}

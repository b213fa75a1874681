-- What the crates below promise, as far as the promises of a run depend on it.
use Rattle.std.specs.Prelude.{◌≡◌, ◌<◌, ◌≤◌, ◌++◌, ℕ, max, true, List, [], Some, Ok, All}
use Rattle.serf_lamport.specs.Clock.{max_clock}
use Rattle.serf_wire.specs.declared.texts.EventBody.{EventBody}
use Rattle.serf_wire.specs.Bytes.{AreBytes}
use Rattle.serf_wire.specs.Decoded.{decoded}
use Rattle.serf_wire.specs.Laws.{CanonicalSpells, DecodesInRange}
use Rattle.serf_wire.specs.Message.{Message}
use Rattle.serf_wire.specs.Spells.{Spells}
use Rattle.serf_snapshot.specs.declared.kind.ClockKind.{ClockKind}
use Rattle.serf_snapshot.specs.declared.kept.EntryFilter.{EntryFilter}
use Rattle.serf_snapshot.specs.Clocks.{clock_line, compacted_text, is_whole, last_clock, sealed}
use Rattle.serf_snapshot.specs.EventLines.{event_line, events_in, if_event_wanted, kept_clock_line, min_in, min_line, queries_in, query_line}
use Rattle.serf_snapshot.specs.KeptAppends.{kept_compaction_of}
use Rattle.serf_snapshot.specs.AppendsLine.{SnapshotView}
use Rattle.serf_snapshot.specs.TimedEvent.{timed_event}
use Rattle.serf_window.specs.Laws.{SlotLaws}
use Rattle.serf_window.specs.Queries.{same_id}
use Rattle.serf_window.specs.Texts.{same_texts}
use Rattle.serf_agent.specs.Keeping.{KeepingLaws}
use Rattle.serf_agent.specs.KeptLives.{BeginsDurable, StaysDurable}
use Rattle.serf_agent.specs.KeptTexts.{KeptEventLaws, KeptQueryLaws}
use Rattle.serf_agent.specs.Laws.{AdmitsNew, ShortPackets, StaysSound}
use Rattle.serf_agent.specs.Said.{SaidLaws}
use Rattle.serf_agent.specs.Taking.{TakingLaws}
use Rattle.serf_agent.specs.TrackOf.{event_track, query_track}

-- Which events a text has. If the first of two parts is whole, the text has the events of both parts, and only lines of
-- events have any.
pub record SaysEvents : Type 0 where
  pub joined : (w : EntryFilter) (front tail : List ℕ) → is_whole front ≡ true → events_in w (front ++ tail) ≡ events_in w front ++ events_in w tail
  pub sealed : (w : EntryFilter) (text : List ℕ) → events_in w (sealed text) ≡ events_in w text
  pub event_line : (w : EntryFilter) (t : ℕ) (name payload : List ℕ) → 0 < t → t < max_clock → AreBytes name → AreBytes payload → events_in w (event_line t name payload) ≡ if_event_wanted w (Some (timed_event t name payload))
  pub query_line : (w : EntryFilter) (t id : ℕ) → events_in w (query_line t id) ≡ []
  pub min_line : (w : EntryFilter) (k : ClockKind) (t : ℕ) → events_in w (min_line k t) ≡ []
  pub clock_line : (w : EntryFilter) (k : ClockKind) (t : ℕ) → events_in w (clock_line k t) ≡ []
  pub kept_clock_line : (w : EntryFilter) (k : ClockKind) (t : ℕ) → events_in w (kept_clock_line k t) ≡ []
  -- so the compaction of an agent that keeps no events leaves none, and the compaction of an agent that keeps them
  -- leaves those of its lines
  pub compacted : (w : EntryFilter) (m e q : ℕ) → events_in w (compacted_text m e q) ≡ []
  pub kept_compacted : (w : EntryFilter) (lines : List ℕ) (s : SnapshotView) → is_whole lines ≡ true → events_in w (kept_compaction_of lines s) ≡ events_in w lines
  -- each of these events can be written in a line
  pub can_be_written : (w : EntryFilter) (text : List ℕ) → All (λ e. (0 < e.time) × (e.time < max_clock) × AreBytes e.name × AreBytes e.payload) (events_in w text)

-- Lines and compactions are whole, and so is a whole text followed by a line.
pub record AreWhole : Type 0 where
  pub both : (text line : List ℕ) → is_whole text ≡ true → is_whole line ≡ true → is_whole (text ++ line) ≡ true
  pub sealed : (text : List ℕ) → is_whole (sealed text) ≡ true
  pub event_line : (t : ℕ) (name payload : List ℕ) → is_whole (event_line t name payload) ≡ true
  pub query_line : (t id : ℕ) → is_whole (query_line t id) ≡ true
  pub min_line : (k : ClockKind) (t : ℕ) → is_whole (min_line k t) ≡ true
  pub clock_line : (k : ClockKind) (t : ℕ) → is_whole (clock_line k t) ≡ true
  pub kept_clock_line : (k : ClockKind) (t : ℕ) → is_whole (kept_clock_line k t) ≡ true
  pub compacted : (m e q : ℕ) → is_whole (compacted_text m e q) ≡ true
  pub kept_compacted : (lines : List ℕ) (s : SnapshotView) → is_whole lines ≡ true → is_whole (kept_compaction_of lines s) ≡ true

-- If agents keep their events, the durable text has everything that was entered.
pub record KeepsEvents : Type 0 where
  pub begins : BeginsDurable
  pub stays : StaysDurable
  pub event_texts : KeptEventLaws
  pub query_texts : KeptQueryLaws
  pub events : KeepingLaws EventBody same_texts
  pub queries : KeepingLaws ℕ same_id
  -- agents accept what is new and within the window
  pub taking : TakingLaws event_track
  pub query_taking : TakingLaws query_track
  -- which queries a text has
  pub said : SaidLaws
  pub fired_queries_joined : (w : EntryFilter) (front tail : List ℕ) → is_whole front ≡ true → queries_in w (front ++ tail) ≡ queries_in w front ++ queries_in w tail
  -- the minimums in a text
  pub lowest : (k : ClockKind) (text : List ℕ) → (1 ≤ min_in k text) × (min_in k text ≤ max_clock)
  pub min_joined : (k : ClockKind) (front tail : List ℕ) → is_whole front ≡ true → min_in k (front ++ tail) ≡ max (min_in k front) (min_in k tail)

pub record Below : Type 0 where
  -- packets decode to the message that they spell, decoded numbers are in range, and canonical packets spell their
  -- messages
  pub spelled : (packet : List ℕ) (m : Message) → Spells m packet → decoded packet ≡ Ok m
  pub in_range : DecodesInRange
  pub canonical : CanonicalSpells
  -- the slots of events
  pub slots : SlotLaws EventBody
  -- the clocks in a text: bytes after it never lower them, and they are valid times
  pub clock_grows : (k : ClockKind) (front tail : List ℕ) → last_clock k front ≤ last_clock k (front ++ tail)
  pub clock_below : (k : ClockKind) (text : List ℕ) → last_clock k text < max_clock
  -- an agent's packets, its steps, and what it admits
  pub short : ShortPackets
  pub sound : StaysSound
  pub admits : AdmitsNew
  -- agents that keep their events, and what their texts have
  pub keeps : KeepsEvents
  pub says : SaysEvents
  pub whole : AreWhole

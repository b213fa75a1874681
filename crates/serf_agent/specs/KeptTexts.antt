-- The kept entries of a text, as an opening restores them, and what a text must have of what was handed out.
use Rattle.std.specs.Prelude.{◌≡◌, ◌+◌, ◌-◌, ◌^◌, ◌<◌, ◌≤◌, ◌⊎◌, ℕ, true, List, [], ◌∷◌, ◌++◌, length, max, map, All, Contains}
use Rattle.serf_lamport.specs.Clock.{max_clock}
use Rattle.serf_wire.specs.Bytes.{HasBytes}
use Rattle.serf_wire.specs.declared.texts.EventBody.{EventBody}
use Rattle.serf_window.specs.Texts.{event_of}
use Rattle.serf_window.specs.Window.{TimedEntry}
use Rattle.serf_snapshot.specs.declared.kept.KeptQuery.{KeptQuery}
use Rattle.serf_snapshot.specs.declared.kept.EntryFilter.{EntryFilter}
use Rattle.serf_snapshot.specs.declared.kind.ClockKind.{ClockKind}
use Rattle.serf_snapshot.specs.declared.kind.ClockKind.TheVariants as kinds
use Rattle.serf_snapshot.specs.Clocks.{clock_line, is_whole}
use Rattle.serf_snapshot.specs.EventLines.{event_line, events_in, min_in, queries_in, query_line}
use Rattle.serf_snapshot.specs.TimedEvent.{TimedEvent}
use Rattle.serf_agent.specs.Config.{max_text_bytes}
use Rattle.serf_agent.specs.Ideal.{Past}
use Rattle.serf_agent.specs.Keeping.{IsHad, entries_in, opened_clock}

-- all times, and names and payloads of any length
abbrev pub whatever : EntryFilter
whatever = record { from = 0; below = 2 ^ 64 - 1; longest = 2 ^ 64 - 1 }

-- The entries that a buffer of n slots can restore, depending on the text's last clock and minimum time: none that is
-- above the last clock line, too old, or below the minimum time, and none whose name and payload are too long.
abbrev pub within_reach : ℕ → ℕ → ℕ → EntryFilter
within_reach n last lowest = record { from = max lowest (opened_clock last lowest - n); below = last + 1; longest = max_text_bytes }

abbrev pub event_entry : TimedEvent → TimedEntry EventBody
event_entry e = record { time = e.time; key = event_of e.name e.payload }

abbrev pub query_entry : KeptQuery → TimedEntry ℕ
query_entry q = record { time = q.time; key = q.id }

-- the events of a text that pass the filter, and its queries, in order
abbrev pub kept_events : EntryFilter → List ℕ → List (TimedEntry EventBody)
kept_events w text = map event_entry (events_in w text)

abbrev pub kept_queries : EntryFilter → List ℕ → List (TimedEntry ℕ)
kept_queries w text = map query_entry (queries_in w text)

-- Each entry of a history is below the text's minimum time of its kind, or is read from the text.
abbrev pub AreKept : {K : Type 0} → ClockKind → (EntryFilter → List ℕ → List (TimedEntry K)) → List (Past K) → List ℕ → Type 0
AreKept kind read history text = All (λ p. (p.entry.time < min_in kind text) ⊎ Contains (read whatever text) p.entry) history

-- An event's line, the names and payloads that it can contain, and those that are short enough to be restored; and the
-- same for queries.
abbrev pub line_of_event : ℕ → EventBody → List ℕ
line_of_event t what = event_line t what.name what.payload

abbrev pub IsWritable : EventBody → Type 0
IsWritable what = HasBytes what

abbrev pub IsShort : ℕ → EventBody → Type 0
IsShort longest what = length what.name + length what.payload ≤ longest

abbrev pub IsIdWritable : ℕ → Type 0
IsIdWritable id = id < 2 ^ 32

-- an ID is never too long
abbrev pub IsIdShort : ℕ → ℕ → Type 0
IsIdShort longest id = 0 ≤ longest

-- What happens to a text that has what was handed out of a kind.
pub record KeptTextLaws {K : Type 0} (kind : ClockKind) (read : EntryFilter → List ℕ → List (TimedEntry K)) (line : ℕ → K → List ℕ) (Written : K → Type 0) (Short : ℕ → K → Type 0) : Type 0 where
  -- no tail takes any of it away
  pub grows : (history : List (Past K)) (text tail : List ℕ) → AreKept kind read history text → AreKept kind read history (text ++ tail)
  -- another entry is kept by its line, or by a clock line without a leading zero, whatever was handed out up to its
  -- time
  pub line_kept : (history : List (Past K)) (text : List ℕ) (life t : ℕ) (what : K) → is_whole text ≡ true → 0 < t → t < max_clock → Written what → Short max_text_bytes what → AreKept kind read history text
      → AreKept kind read (history ++ record { life = life; entry = record { time = t; key = what } } ∷ []) (text ++ line t what)
  pub clock_line_kept : (history : List (Past K)) (text : List ℕ) (life t last : ℕ) (what : K) → is_whole text ≡ true → t ≤ last → 0 < last → last < max_clock → AreKept kind read history text
      → AreKept kind read (history ++ record { life = life; entry = record { time = t; key = what } } ∷ []) (text ++ clock_line kind last)
  -- what an opening restores from the text is everything that a buffer of n slots needs
  pub had : (n last : ℕ) (history : List (Past K)) (text : List ℕ) → All (λ p. p.entry.time ≤ last) history → All (λ p. Short max_text_bytes p.entry.key) history → AreKept kind read history text
      → All (λ p. IsHad n last (min_in kind text) (read (within_reach n last (min_in kind text)) text) p.entry) history
  -- no entry is above the last clock, and each is short
  pub inside : (n last lowest : ℕ) (text : List ℕ) → All (λ e. (e.time ≤ last) × Short max_text_bytes e.key) (read (within_reach n last lowest) text)
  -- after an opening, the text has what the opening leaves
  pub stays : (n last : ℕ) (history new : List (Past K)) (text : List ℕ) → last < max_clock → AreKept kind read history text
      → All (Contains (entries_in history ++ read (within_reach n last (min_in kind text)) text)) (entries_in new) → AreKept kind read new text

abbrev pub KeptEventLaws : Type 0
KeptEventLaws = KeptTextLaws kinds.Event kept_events line_of_event IsWritable IsShort

abbrev pub KeptQueryLaws : Type 0
KeptQueryLaws = KeptTextLaws kinds.Query kept_queries query_line IsIdWritable IsIdShort

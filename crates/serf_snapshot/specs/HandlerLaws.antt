-- What becomes of the open events of a file, operation by operation, and what a text says of each of its events.
use Rattle.std.specs.Prelude.{◌≡◌, ℕ, ◌<◌, ◌≤◌, true, false, if◌then◌else◌, Some, None, List, [], ◌∷◌, ◌++◌, ◌⊎◌, take}
use Rattle.std.specs.List.{All, Contains, flat_map}
use Rattle.hex.specs.Hex.{IsBytes}
use Rattle.serf_lamport.specs.Clock.{max_clock}
use Rattle.serf_snapshot.specs.Clocks.{is_whole, lines_of, sealed}
use Rattle.serf_snapshot.specs.EventLines.{event_line, events_of_lines}
use Rattle.serf_snapshot.specs.TimedEvent.{TimedEvent}
use Rattle.serf_snapshot.specs.Handlers.{begun_line, begun_of_line, done_line, done_of_line, done_up_to_line, done_up_to_of_line, handed_of_line, handler_line, is_tracked, mark_begun, mark_done, mark_done_up_to, mark_handed, open_after_lines, open_event, open_events, open_line, open_of_line, tracked_lines}
use Rattle.serf_snapshot.specs.declared.handlers.HandlerLine.TheVariants.{Begun, Done, DoneUpTo}
use Rattle.serf_snapshot.specs.declared.handlers.OpenEvent.{OpenEvent}
use Rattle.serf_snapshot.specs.declared.kept.EntryFilter.{EntryFilter}

-- The lines of open events: each has the line that says that it is open and, if its handler has begun, the line that says
-- so.
abbrev pub lines_of_open : OpenEvent → List ℕ
lines_of_open o = open_line o.event.time o.event.name o.event.payload ++ (if o.has_begun then begun_line o.event.time o.event.name o.event.payload else [])

abbrev pub open_lines : List OpenEvent → List ℕ
open_lines open_list = flat_map lines_of_open open_list

-- What a compaction leaves: lines without a line `#done TIME`, such as those of the window's events and of the clocks; the
-- first line `#done TIME`; the lines of the open events, whether the window still holds them or not; and lines that say
-- nothing of handlers.
abbrev pub compacted_lines : List ℕ → ℕ → List OpenEvent → List ℕ → List ℕ
compacted_lines before time open_list more = before ++ done_up_to_line time ++ open_lines open_list ++ more

-- One operation on a file. All its bytes are flushed, except for a tail: this is what was appended after the last flush
-- before the process ended. It can be any bytes, and the next opening ends its last line if that is torn.
pub data FileStep : Type 0 where
  -- an event is handed out, so its line is appended
  HandsOut : TimedEvent → FileStep
  -- an event is opened by an `#open` line, which says nothing of clocks, minimums, events and queries
  Opens : TimedEvent → FileStep
  -- its handler begins
  Begins : TimedEvent → FileStep
  -- it is done
  Ends : TimedEvent → FileStep
  -- all events up to this time are done
  EndsUpTo : ℕ → FileStep
  -- lines that say nothing of handlers are appended: those of clocks, minimums, queries and members
  Appends : List ℕ → FileStep
  -- the file is replaced with these lines, a line `#done TIME`, the lines of the open events, and these other lines
  Compacts : List ℕ → ℕ → List ℕ → FileStep
  -- the process ends, and leaves this tail
  Stops : List ℕ → FileStep

-- the file after one operation
abbrev pub text_after : List ℕ → FileStep → List ℕ
text_after text (HandsOut e) = text ++ event_line e.time e.name e.payload
text_after text (Opens e) = text ++ open_line e.time e.name e.payload
text_after text (Begins e) = text ++ begun_line e.time e.name e.payload
text_after text (Ends e) = text ++ done_line e.time e.name e.payload
text_after text (EndsUpTo time) = text ++ done_up_to_line time
text_after text (Appends lines) = text ++ lines
text_after text (Compacts before time more) = compacted_lines before time (open_events text) more
text_after text (Stops tail) = sealed (text ++ tail)

-- the events that are open after it, as a host would count them: by what it handed out, and by what it said has begun or
-- is done; a tail may say some of this too
abbrev pub open_after_step : List OpenEvent → FileStep → List OpenEvent
open_after_step open_list (HandsOut e) = mark_handed e open_list
open_after_step open_list (Opens e) = mark_handed e open_list
open_after_step open_list (Begins e) = mark_begun e open_list
open_after_step open_list (Ends e) = mark_done e open_list
open_after_step open_list (EndsUpTo time) = mark_done_up_to time open_list
open_after_step open_list (Appends lines) = open_list
open_after_step open_list (Compacts before time more) = open_list
open_after_step open_list (Stops tail) = open_after_lines open_list (lines_of tail)

-- an event that a line can hold
pub record CanBeWritten (e : TimedEvent) : Type 0 where
  pub some : 0 < e.time
  pub small : e.time < max_clock
  pub name : IsBytes e.name
  pub payload : IsBytes e.payload

-- whole lines that say nothing of handlers
pub record AreSilent (lines : List ℕ) : Type 0 where
  pub whole : is_whole lines ≡ true
  pub silent : All (λ line. handler_line line ≡ None) (lines_of lines)

-- what an operation has to keep to
abbrev pub IsPossible : FileStep → Type 0
IsPossible (HandsOut e) = CanBeWritten e
IsPossible (Opens e) = CanBeWritten e
IsPossible (Begins e) = CanBeWritten e
IsPossible (Ends e) = CanBeWritten e
IsPossible (EndsUpTo time) = time < max_clock
IsPossible (Appends lines) = AreSilent lines
IsPossible (Compacts before time more) = (is_whole before ≡ true) × (is_tracked before ≡ false) × (time < max_clock) × AreSilent more
IsPossible (Stops tail) = Unit {0}

abbrev pub text_after_all : List ℕ → List FileStep → List ℕ
text_after_all text [] = text
text_after_all text (step ∷ steps) = text_after_all (text_after text step) steps

abbrev pub open_after_all : List OpenEvent → List FileStep → List OpenEvent
open_after_all open_list [] = open_list
open_after_all open_list (step ∷ steps) = open_after_all (open_after_step open_list step) steps

-- Whatever is done to a file, over all kills, torn tails and compactions: it reports exactly what was handed out and isn't
-- done, in order, each with whether its handler has begun.
abbrev pub ReportsAll : Type 0
ReportsAll = (text : List ℕ) (steps : List FileStep) → is_whole text ≡ true → is_tracked text ≡ true → All IsPossible steps
    → open_events (text_after_all text steps) ≡ open_after_all (open_events text) steps

-- an event waits for its handler, or its handler has begun, and it is open in both cases
abbrev pub Waits : List OpenEvent → TimedEvent → Type 0
Waits open_list e = Contains open_list (open_event e false)

abbrev pub HasBegun : List OpenEvent → TimedEvent → Type 0
HasBegun open_list e = Contains open_list (open_event e true)

-- one of these lines says that this event was handed out: its `#event` line, or an `#open` line
abbrev pub IsSaidHanded : TimedEvent → List (List ℕ) → Type 0
IsSaidHanded e lines = (line : List ℕ) × Contains lines line × (handed_of_line line ≡ Some e)

-- one of these lines says that the handler of this event has begun
abbrev pub IsSaidBegun : TimedEvent → List (List ℕ) → Type 0
IsSaidBegun e lines = (line : List ℕ) × Contains lines line × (handler_line line ≡ Some (Begun e))

-- one of these lines says that this event is done, alone or with all events up to a time
abbrev pub SaysDone : TimedEvent → List ℕ → Type 0
SaysDone e line = (handler_line line ≡ Some (Done e)) ⊎ ((time : ℕ) × (handler_line line ≡ Some (DoneUpTo time)) × (e.time ≤ time))

abbrev pub IsSaidDone : TimedEvent → List (List ℕ) → Type 0
IsSaidDone e lines = (line : List ℕ) × Contains lines line × SaysDone e line

-- the lines of a text that say something of handlers, if it is in them
abbrev pub tracked_of : List ℕ → List (List ℕ)
tracked_of text = tracked_lines (lines_of text)

-- Each event that is read from lines is among those of which these lines say that they were handed out.
abbrev pub EventsAreHanded : Type 0
EventsAreHanded = (w : EntryFilter) (lines : List (List ℕ)) (e : TimedEvent) → Contains (events_of_lines w lines) e → IsSaidHanded e lines

-- Of any text, whoever wrote it and in whatever order: each event that its tracked lines hand out is open, or a line says
-- that it is done.
abbrev pub ReportedOrDone : Type 0
ReportedOrDone = (text : List ℕ) (e : TimedEvent) → IsSaidHanded e (tracked_of text)
    → Waits (open_events text) e ⊎ HasBegun (open_events text) e ⊎ IsSaidDone e (tracked_of text)

-- An event is reported as begun only if a line says that its handler has begun.
abbrev pub BegunOnlyIfSaid : Type 0
BegunOnlyIfSaid = (text : List ℕ) (e : TimedEvent) → HasBegun (open_events text) e → IsSaidBegun e (tracked_of text)

-- Each event that the tracked lines hand out waits, or a line says that its handler has begun, or that it is done.
abbrev pub WaitsOrBegan : Type 0
WaitsOrBegan = (text : List ℕ) (e : TimedEvent) → IsSaidHanded e (tracked_of text)
    → Waits (open_events text) e ⊎ IsSaidBegun e (tracked_of text) ⊎ IsSaidDone e (tracked_of text)

-- After a line says that the handler of an event has begun, the event doesn't wait again, whatever lines follow, unless one
-- of them hands out this event again.
abbrev pub NeverWaitsAgain : Type 0
NeverWaitsAgain = (text tail : List ℕ) (e : TimedEvent) → is_whole text ≡ true → CanBeWritten e
    → ((line : List ℕ) → Contains (lines_of tail) line → handed_of_line line ≡ Some e → ⊥)
    → Waits (open_events (text ++ (begun_line e.time e.name e.payload ++ tail))) e → ⊥

-- The first line `#done TIME` of a text begins with nothing open, whatever the lines above it are.
abbrev pub StartsTracking : Type 0
StartsTracking = (text : List ℕ) (time : ℕ) → is_whole text ≡ true → is_tracked text ≡ false → time < max_clock
    → (is_tracked (text ++ done_up_to_line time) ≡ true) × (open_events (text ++ done_up_to_line time) ≡ [])

-- A line that says of no event that it has begun, is done, or is open. An agent that doesn't track handlers writes only
-- lines of this kind, also for its events.
pub record IsUntracked (line : List ℕ) : Type 0 where
  pub begun : begun_of_line line ≡ None
  pub done : done_of_line line ≡ None
  pub done_up_to : done_up_to_of_line line ≡ None
  pub opened : open_of_line line ≡ None

-- whole lines of this kind
pub record AreUntracked (lines : List ℕ) : Type 0 where
  pub whole : is_whole lines ≡ true
  pub untracked : All IsUntracked (lines_of lines)

-- After a text, any part of these lines, even a torn one, leaves what the text says of handlers being tracked as it was;
-- and so does the seal of a torn line.
abbrev pub LeavesUntracked : Type 0
LeavesUntracked = (text lines : List ℕ) (n : ℕ) → is_whole text ≡ true → AreUntracked lines
    → is_tracked (sealed (text ++ take n lines)) ≡ is_tracked text

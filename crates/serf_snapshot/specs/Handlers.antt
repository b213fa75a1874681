-- Which events of a text are open: they were handed out, and no line says that they are done. The lines are read in
-- order. They are this project's own: Serf's snapshot says nothing of handlers, and Serf skips these lines.
use Rattle.std.specs.Prelude.{ℕ, Bool, true, false, not, nat_lt, ◌&&◌, ◌==◌, if◌then◌else◌, Option, Some, None, is_some, List, [], ◌∷◌, ◌++◌, codes, decimal, filter, map}
use Rattle.std.specs.List.{list_any}
use Rattle.std.specs.Option.{option_map}
use Rattle.std.specs.Str.{bytes_eq}
use Rattle.hex.specs.Hex.{encode_lower}
use Rattle.serf_snapshot.specs.Clocks.{following, is_time_text, lines_of, read_on}
use Rattle.serf_snapshot.specs.EventLines.{event_after, event_of_line}
use Rattle.serf_snapshot.specs.TimedEvent.{TimedEvent}
use Rattle.serf_snapshot.specs.declared.handlers.HandlerLine.{HandlerLine}
use Rattle.serf_snapshot.specs.declared.handlers.HandlerLine.TheVariants.{Begun, Done, DoneUpTo, Delivered}
use Rattle.serf_snapshot.specs.declared.handlers.OpenEvent.{OpenEvent}

-- Lines as they are written

-- An event is still open, as a compaction says of it: the event's time, and its name and its payload in hex.
abbrev pub open_text : ℕ → List ℕ → List ℕ → List ℕ
open_text time name payload = codes "#open " ++ decimal time ++ 32 ∷ encode_lower name ++ 32 ∷ encode_lower payload

abbrev pub open_line : ℕ → List ℕ → List ℕ → List ℕ
open_line time name payload = open_text time name payload ++ 10 ∷ []

-- The handler of an event has begun: the event's time, and its name and its payload in hex.
abbrev pub begun_text : ℕ → List ℕ → List ℕ → List ℕ
begun_text time name payload = codes "#begun " ++ decimal time ++ 32 ∷ encode_lower name ++ 32 ∷ encode_lower payload

abbrev pub begun_line : ℕ → List ℕ → List ℕ → List ℕ
begun_line time name payload = begun_text time name payload ++ 10 ∷ []

-- An event is done: its time, and its name and its payload in hex.
abbrev pub done_text : ℕ → List ℕ → List ℕ → List ℕ
done_text time name payload = codes "#done " ++ decimal time ++ 32 ∷ encode_lower name ++ 32 ∷ encode_lower payload

abbrev pub done_line : ℕ → List ℕ → List ℕ → List ℕ
done_line time name payload = done_text time name payload ++ 10 ∷ []

-- All events of the lines above are done, up to this time.
abbrev pub done_up_to_text : ℕ → List ℕ
done_up_to_text time = codes "#done " ++ decimal time

abbrev pub done_up_to_line : ℕ → List ℕ
done_up_to_line time = done_up_to_text time ++ 10 ∷ []

-- Lines as they are read

abbrev pub open_of_line : List ℕ → Option TimedEvent
open_of_line line = event_after (following (codes "#open ") line)

abbrev pub begun_of_line : List ℕ → Option TimedEvent
begun_of_line line = event_after (following (codes "#begun ") line)

abbrev pub done_of_line : List ℕ → Option TimedEvent
done_of_line line = event_after (following (codes "#done ") line)

-- the time that the text is, which may be 0
abbrev pub time_of_text : Option (List ℕ) → Option ℕ
time_of_text None = None
time_of_text (Some digits) = if is_time_text digits then Some (read_on 0 digits) else None

abbrev pub done_up_to_of_line : List ℕ → Option ℕ
done_up_to_of_line line = time_of_text (following (codes "#done ") line)

abbrev pub first_of : {T : Type 0} → Option T → Option T → Option T
first_of None next = next
first_of (Some found) next = Some found

-- the event that a line says was handed out: an `#event` line says so, and so does an `#open` line
abbrev pub handed_of_line : List ℕ → Option TimedEvent
handed_of_line line = first_of (event_of_line line) (open_of_line line)

-- what a line says of handlers: an event was handed out, it has begun, it is done, or all are done up to a time
abbrev pub handler_line : List ℕ → Option HandlerLine
handler_line line = first_of (option_map Delivered (handed_of_line line)) (first_of (option_map Begun (begun_of_line line)) (first_of (option_map Done (done_of_line line)) (option_map DoneUpTo (done_up_to_of_line line))))

-- Open events

-- two events are the same: their times, names and payloads are equal
abbrev pub same_event : TimedEvent → TimedEvent → Bool
same_event a b = (a.time == b.time) && (bytes_eq a.name b.name && bytes_eq a.payload b.payload)

abbrev pub open_event : TimedEvent → Bool → OpenEvent
open_event event has_begun = record { event = event; has_begun = has_begun }

abbrev pub is_open : TimedEvent → List OpenEvent → Bool
is_open e open_list = list_any (λ o. same_event e o.event) open_list

-- an event that is handed out waits for its handler; an event that is open already isn't opened again
abbrev pub mark_handed : TimedEvent → List OpenEvent → List OpenEvent
mark_handed e open_list = if is_open e open_list then open_list else open_list ++ open_event e false ∷ []

abbrev pub mark_begun_if : TimedEvent → OpenEvent → OpenEvent
mark_begun_if e o = if same_event e o.event then open_event o.event true else o

abbrev pub mark_begun : TimedEvent → List OpenEvent → List OpenEvent
mark_begun e open_list = map (mark_begun_if e) open_list

abbrev pub mark_done : TimedEvent → List OpenEvent → List OpenEvent
mark_done e open_list = filter (λ o. not (same_event e o.event)) open_list

abbrev pub mark_done_up_to : ℕ → List OpenEvent → List OpenEvent
mark_done_up_to time open_list = filter (λ o. nat_lt time o.event.time) open_list

-- the open events after one line
abbrev pub open_after : List OpenEvent → Option HandlerLine → List OpenEvent
open_after open_list None = open_list
open_after open_list (Some (Delivered e)) = mark_handed e open_list
open_after open_list (Some (Begun e)) = mark_begun e open_list
open_after open_list (Some (Done e)) = mark_done e open_list
open_after open_list (Some (DoneUpTo time)) = mark_done_up_to time open_list

abbrev pub open_after_lines : List OpenEvent → List (List ℕ) → List OpenEvent
open_after_lines open_list [] = open_list
open_after_lines open_list (line ∷ lines) = open_after_lines (open_after open_list (handler_line line)) lines

-- whether a line says up to which time all events above it are done
abbrev pub is_done_up_to : List ℕ → Bool
is_done_up_to line = is_some (done_up_to_of_line line)

-- the lines after the first of these; the lines above it say nothing of handlers
abbrev pub tracked_lines : List (List ℕ) → List (List ℕ)
tracked_lines [] = []
tracked_lines (line ∷ lines) = if is_done_up_to line then lines else tracked_lines lines

abbrev pub is_tracked : List ℕ → Bool
is_tracked text = list_any is_done_up_to (lines_of text)

-- The open events of a text, in the order in which they were handed out, each with whether its handler has begun.
abbrev pub open_events : List ℕ → List OpenEvent
open_events text = open_after_lines [] (tracked_lines (lines_of text))

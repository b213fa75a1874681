-- The lines of an agent that keeps its events, in addition to its clock lines: the events and the queries that it
-- accepted, and its minimums, which are the smallest times that it accepts. Each of these lines begins with `#`, so
-- Serf skips it (`snapshot.go`, `replay`), and so does an agent that keeps no events. They are this project's own.
use Rattle.std.specs.Prelude.{ℕ, ◌+◌, ◌^◌, max, min, Bool, false, if◌then◌else◌, ◌&&◌, not, nat_lt, nat_le, ◌==◌, Option, Some, None, List, [], ◌∷◌, ◌++◌, length, codes, decimal}
use Rattle.std.specs.List.{flat_map, slice_split}
use Rattle.std.specs.Result.{result_ok}
use Rattle.std.specs.Str.{all_ascii_digits}
use Rattle.hex.specs.Hex.{decode_of, encode_lower}
use Rattle.serf_lamport.specs.Clock.{max_clock}
use Rattle.serf_snapshot.specs.declared.kept.KeptQuery.{KeptQuery}
use Rattle.serf_snapshot.specs.declared.kept.EntryFilter.{EntryFilter}
use Rattle.serf_snapshot.specs.declared.kind.ClockKind.{ClockKind}
use Rattle.serf_snapshot.specs.TimedEvent.{TimedEvent, timed_event}
use Rattle.serf_snapshot.specs.Clocks.{following, is_empty, is_time_text, lines_of, prefix_of, read_on, time_text_value}

-- Lines as they are written

-- An event: its time, and its name and its payload in hex, two digits for each byte.
abbrev pub event_text : ℕ → List ℕ → List ℕ → List ℕ
event_text time name payload = codes "#event " ++ decimal time ++ 32 ∷ encode_lower name ++ 32 ∷ encode_lower payload

abbrev pub event_line : ℕ → List ℕ → List ℕ → List ℕ
event_line time name payload = event_text time name payload ++ 10 ∷ []

-- A query: its time and its ID.
abbrev pub query_text : ℕ → ℕ → List ℕ
query_text time id = codes "#query " ++ decimal time ++ 32 ∷ decimal id

abbrev pub query_line : ℕ → ℕ → List ℕ
query_line time id = query_text time id ++ 10 ∷ []

-- The minimum of a kind.
abbrev pub min_prefix : ClockKind → List ℕ
min_prefix kind = codes "#least " ++ prefix_of kind

abbrev pub min_text : ClockKind → ℕ → List ℕ
min_text kind time = min_prefix kind ++ decimal time

abbrev pub min_line : ClockKind → ℕ → List ℕ
min_line kind time = min_text kind time ++ 10 ∷ []

-- The clock line of a time whose events or queries have their own lines: its number has one zero in front. Every reader
-- reads the same clock from it, and so does Serf.
abbrev pub kept_clock_text : ClockKind → ℕ → List ℕ
kept_clock_text kind time = prefix_of kind ++ 48 ∷ decimal time

abbrev pub kept_clock_line : ClockKind → ℕ → List ℕ
kept_clock_line kind time = kept_clock_text kind time ++ 10 ∷ []

-- Lines as they are read

-- the bytes that hex digits write, if they are pairs of hex digits
abbrev pub bytes_of_hex : List ℕ → Option (List ℕ)
bytes_of_hex digits = result_ok (decode_of digits)

-- an event, if its texts could be read; 0 isn't the time of any event
abbrev pub event_from : ℕ → Option (List ℕ) → Option (List ℕ) → Option TimedEvent
event_from time None payload = None
event_from time (Some name) None = None
event_from time (Some name) (Some payload) = if time == 0 then None else Some (timed_event time name payload)

-- an event from the parts between single spaces, which have to be three
abbrev pub event_from_parts : List (List ℕ) → Option TimedEvent
event_from_parts [] = None
event_from_parts (time ∷ []) = None
event_from_parts (time ∷ name ∷ []) = None
event_from_parts (time ∷ name ∷ payload ∷ []) = event_from (time_text_value (Some time)) (bytes_of_hex name) (bytes_of_hex payload)
event_from_parts (time ∷ name ∷ payload ∷ more ∷ rest) = None

abbrev pub event_after : Option (List ℕ) → Option TimedEvent
event_after None = None
event_after (Some text) = event_from_parts (slice_split (λ b. b == 32) text)

-- the event of a line, if it is the line of an event
abbrev pub event_of_line : List ℕ → Option TimedEvent
event_of_line line = event_after (following (codes "#event ") line)

-- a number below 2^32 in decimal digits
abbrev pub id_of : List ℕ → Option ℕ
id_of digits = if not (is_empty digits) && (all_ascii_digits digits && nat_lt (read_on 0 digits) (2 ^ 32)) then Some (read_on 0 digits) else None

abbrev pub kept_query : ℕ → ℕ → KeptQuery
kept_query time id = record { time = time; id = id }

-- a query, if its ID could be read; 0 isn't the time of any query
abbrev pub query_from : ℕ → Option ℕ → Option KeptQuery
query_from time None = None
query_from time (Some id) = if time == 0 then None else Some (kept_query time id)

-- a query from the parts between single spaces, which have to be two
abbrev pub query_from_parts : List (List ℕ) → Option KeptQuery
query_from_parts [] = None
query_from_parts (time ∷ []) = None
query_from_parts (time ∷ id ∷ []) = query_from (time_text_value (Some time)) (id_of id)
query_from_parts (time ∷ id ∷ more ∷ rest) = None

abbrev pub query_after : Option (List ℕ) → Option KeptQuery
query_after None = None
query_after (Some text) = query_from_parts (slice_split (λ b. b == 32) text)

-- the query of a line, if it is the line of a query
abbrev pub query_of_line : List ℕ → Option KeptQuery
query_of_line line = query_after (following (codes "#query ") line)

-- Events and queries of a text

-- whether a filter selects a time: it isn't before the first time, and it is below the last
abbrev pub is_time_wanted : EntryFilter → ℕ → Bool
is_time_wanted w time = nat_le w.from time && nat_lt time w.below

-- whether a filter selects an event: it selects its time, and the texts of the event together aren't too long
abbrev pub is_event_wanted : EntryFilter → TimedEvent → Bool
is_event_wanted w e = is_time_wanted w e.time && nat_le (length e.name + length e.payload) w.longest

-- what was read from a line, if it is selected
abbrev pub if_wanted : {T : Type 0} → (T → Bool) → Option T → List T
if_wanted wanted None = []
if_wanted wanted (Some x) = if wanted x then x ∷ [] else []

abbrev pub if_event_wanted : EntryFilter → Option TimedEvent → List TimedEvent
if_event_wanted w found = if_wanted (is_event_wanted w) found

abbrev pub is_query_wanted : EntryFilter → KeptQuery → Bool
is_query_wanted w q = is_time_wanted w q.time

abbrev pub if_query_wanted : EntryFilter → Option KeptQuery → List KeptQuery
if_query_wanted w found = if_wanted (is_query_wanted w) found

-- what is read from these lines and selected, in order
abbrev pub said_by_lines : {T : Type 0} → (List ℕ → Option T) → (T → Bool) → List (List ℕ) → List T
said_by_lines read wanted lines = flat_map (λ line. if_wanted wanted (read line)) lines

-- the selected events of these lines, and of a text, in order; only the lines of the text count, so bytes after the
-- last newline are ignored
abbrev pub events_of_lines : EntryFilter → List (List ℕ) → List TimedEvent
events_of_lines w lines = said_by_lines event_of_line (is_event_wanted w) lines

abbrev pub events_in : EntryFilter → List ℕ → List TimedEvent
events_in w text = events_of_lines w (lines_of text)

abbrev pub queries_of_lines : EntryFilter → List (List ℕ) → List KeptQuery
queries_of_lines w lines = said_by_lines query_of_line (is_query_wanted w) lines

abbrev pub queries_in : EntryFilter → List ℕ → List KeptQuery
queries_in w text = queries_of_lines w (lines_of text)

-- The minimums of a text

abbrev pub begins_with_zero : List ℕ → Bool
begins_with_zero [] = false
begins_with_zero (d ∷ ds) = d == 48

-- One above the time of a clock line without a zero in front of its number. Serf or an agent that keeps no events wrote
-- this line, so everything up to its time counts as handed out. 0 for any other line.
abbrev pub above_unkept : Option (List ℕ) → ℕ
above_unkept None = 0
above_unkept (Some digits) = if begins_with_zero digits then 0 else if is_time_text digits then read_on 0 digits + 1 else 0

-- The minimum that digits write, or 0 if they aren't digits. It can be 2^64 - 1, which is above all times.
abbrev pub min_text_value : Option (List ℕ) → ℕ
min_text_value None = 0
min_text_value (Some digits) = if not (is_empty digits) && all_ascii_digits digits then min (read_on 0 digits) max_clock else 0

-- the minimum that one line sets
abbrev pub min_of_line : ClockKind → List ℕ → ℕ
min_of_line kind line = max (min_text_value (following (min_prefix kind) line)) (above_unkept (following (prefix_of kind) line))

abbrev pub min_of_lines : ClockKind → List (List ℕ) → ℕ
min_of_lines kind [] = 1
min_of_lines kind (line ∷ lines) = max (min_of_line kind line) (min_of_lines kind lines)

-- The minimum of a kind in a text: the largest that a line sets, and at least 1.
abbrev pub min_in : ClockKind → List ℕ → ℕ
min_in kind text = min_of_lines kind (lines_of text)

-- What is said about a snapshot and a log: whether the log has the snapshot's node, whether a text is a snapshot, and
-- from which line on it counts.
use Rattle.std.specs.Prelude.{ℕ, ◌==◌, ◌||◌, ◌&&◌, ◌-◌, nat_eq, nat_le, nat_lt, Bool, if◌then◌else◌, List, [], ◌∷◌, length, slice_index, take, codes}
use Rattle.std.specs.List.{list_any, starts_with}
use Rattle.std.specs.Str.{bytes_eq}
use Rattle.serf_text.specs.Lines.{lines_of}
use Rattle.serf_judge.specs.declared.log.Log.{Log}
use Rattle.serf_judge.specs.Identity.{Identity, event_seen, query_seen}

-- whether an entry is of a node, and whether its time is also not below a minimum
abbrev pub is_line_of : {E : Type 0} → (E → ℕ × Identity) → List ℕ → E → Bool
is_line_of seen node e = bytes_eq (seen e).1.node node

abbrev pub is_line_from : {E : Type 0} → (E → ℕ × Identity) → List ℕ → ℕ → E → Bool
is_line_from seen node minimum e = bytes_eq (seen e).1.node node && nat_le minimum (seen e).1.time

-- whether a log says anything about a node
abbrev pub has_line_of : List ℕ → Log → Bool
has_line_of node log =
    list_any (is_line_of event_seen node) log.events.items
    || (list_any (is_line_of query_seen node) log.queries.items || list_any (is_line_of event_seen node) log.fired.items)

-- whether a line begins like those that Serf writes into a snapshot, which an agent of this project writes as well
abbrev pub begins_as_kept : List ℕ → Bool
begins_as_kept line =
    starts_with nat_eq line (codes "clock: ")
    || (starts_with nat_eq line (codes "event-clock: ")
    || (starts_with nat_eq line (codes "query-clock: ")
    || (starts_with nat_eq line (codes "alive: ")
    || (starts_with nat_eq line (codes "not-alive: ")
    || starts_with nat_eq line (codes "coordinate: ")))))

-- the line after which Serf starts afresh, unless it rejoins
abbrev pub is_leave : List ℕ → Bool
is_leave line = bytes_eq line (codes "leave")

-- whether a line begins like those that only an agent of this project writes
abbrev pub is_own : List ℕ → Bool
is_own line = starts_with nat_eq line (codes "#event ") || (starts_with nat_eq line (codes "#query ") || starts_with nat_eq line (codes "#least "))

-- What a crash may leave of the word at the beginning of a line: of a line that only an agent of this project writes,
-- of a clock line, and of any line. It may also leave no bytes.
abbrev pub is_torn_own : List ℕ → Bool
is_torn_own bytes = starts_with nat_eq (codes "#event ") bytes || (starts_with nat_eq (codes "#query ") bytes || starts_with nat_eq (codes "#least ") bytes)

abbrev pub is_torn_clock_word : List ℕ → Bool
is_torn_clock_word bytes = starts_with nat_eq (codes "clock: ") bytes || (starts_with nat_eq (codes "event-clock: ") bytes || starts_with nat_eq (codes "query-clock: ") bytes)

abbrev pub is_torn : List ℕ → Bool
is_torn bytes =
    is_torn_clock_word bytes
    || (is_torn_own bytes
    || (starts_with nat_eq (codes "alive: ") bytes
    || (starts_with nat_eq (codes "not-alive: ") bytes
    || (starts_with nat_eq (codes "coordinate: ") bytes
    || starts_with nat_eq (codes "leave") bytes))))

-- and what an opening makes of it by appending a `#`
abbrev pub is_sealed : List ℕ → Bool
is_sealed line = nat_lt 1 (length line) && (slice_index line (length line - 1) == 35 && is_torn (take (length line - 1) line))

abbrev pub is_kept_line : List ℕ → Bool
is_kept_line line = is_leave line || (begins_as_kept line || (is_own line || is_sealed line))

-- a snapshot is still empty, or has a part of its first word, or has a line of this kind
abbrev pub is_snapshot_text : List ℕ → Bool
is_snapshot_text text = is_torn text || list_any is_kept_line (lines_of text)

-- a snapshot that has a line which Serf never writes
abbrev pub is_own_text : List ℕ → Bool
is_own_text text = list_any is_own (lines_of text)

abbrev pub is_line_wanted : Bool → List ℕ → Bool
is_line_wanted own line = if own then is_own line else is_kept_line line

-- The lines of a snapshot that are effective if Serf doesn't rejoin: those after the last line `leave`. The second list
-- is still to be read, and `start` has what is effective so far. What follows the last newline is not a line.
abbrev pub counted_from : List (List ℕ) → List (List ℕ) → List (List ℕ)
counted_from start [] = start
counted_from start (line ∷ rest) = counted_from (if is_leave line && nat_lt 0 (length rest) then rest else start) rest

abbrev pub counted_lines : List (List ℕ) → List (List ℕ)
counted_lines lines = counted_from lines lines

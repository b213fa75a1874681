-- The message that lines mean. The value of a field is in the first line with its name, and counts as 0 or as empty if
-- it isn't valid there. Whether the message has exactly this text is checked later.
use Rattle.std.specs.Prelude.{◌^◌, ℕ, ℤ, pos, negsuc, ◌==◌, ◌-◌, ◌++◌, ◌&&◌, nat_lt, nat_le, if◌then◌else◌, List, [], ◌∷◌, codes, map, unwrap_or, Option, Some, None}
use Rattle.std.specs.List.{fold}
use Rattle.std.specs.Str.{bytes_eq}
use Rattle.serf_lamport.specs.Clock.{max_clock, last_time}
use Rattle.serf_wire.specs.declared.texts.EventBody.{EventBody}
use Rattle.serf_wire.specs.Message.{Message, Query, PushPull, user_event_of, response_of, query, push_pull, foreign}
use Rattle.serf_wire.specs.Slots.{SlotContent, empty, held}
use Rattle.serf_text.specs.Words.{between, bytes_of, number_of}
use Rattle.serf_packets.specs.Rows.{RowText, rows_of, value_of}

-- a number that is at most the first argument, or 0
abbrev pub number_up_to : ℕ → List ℕ → ℕ
number_up_to top word = unwrap_or (between 0 top (number_of word)) 0

abbrev pub bytes_meant : List ℕ → List ℕ
bytes_meant word = unwrap_or (bytes_of word) []

-- a negative number of 64 bits with a sign, or 0
abbrev pub below_zero : ℕ → ℤ
below_zero n = if nat_lt 0 n && nat_le n 9223372036854775808 then negsuc (n - 1) else pos 0

abbrev pub signed_meant : List ℕ → ℤ
signed_meant [] = pos 0
signed_meant (first ∷ rest) = if first == 45 then below_zero (number_up_to 9223372036854775808 rest) else pos (number_up_to 9223372036854775807 (first ∷ rest))

abbrev pub number_at : ℕ → List ℕ → List RowText → ℕ
number_at top name rows = number_up_to top (value_of name rows)

abbrev pub bytes_at : List ℕ → List RowText → List ℕ
bytes_at name rows = bytes_meant (value_of name rows)

-- the bytes of all lines with this name
abbrev pub texts_at : List ℕ → List RowText → List (List ℕ)
texts_at name rows = map (λ r. bytes_meant r.first) (rows_of name rows)

unfoldable pub event_meant : List RowText → Message
event_meant rows =
    user_event_of (number_at last_time (codes "LTime") rows) (bytes_at (codes "Name") rows) (bytes_at (codes "Payload") rows) (bytes_eq (value_of (codes "CC") rows) (codes "1"))

unfoldable pub query_meant : List RowText → Query
query_meant rows = record {
  time = number_at last_time (codes "LTime") rows;
  id = number_at (2 ^ 32 - 1) (codes "ID") rows;
  addr = bytes_at (codes "Addr") rows;
  port = number_at 65535 (codes "Port") rows;
  source = bytes_at (codes "SourceNode") rows;
  filters = texts_at (codes "filter") rows;
  flags = number_at (2 ^ 32 - 1) (codes "Flags") rows;
  relay_factor = number_at 255 (codes "RelayFactor") rows;
  timeout = signed_meant (value_of (codes "Timeout") rows);
  name = bytes_at (codes "Name") rows;
  payload = bytes_at (codes "Payload") rows;
}

unfoldable pub response_meant : List RowText → Message
response_meant rows =
    response_of (number_at max_clock (codes "LTime") rows) (number_at (2 ^ 32 - 1) (codes "ID") rows) (bytes_at (codes "From") rows)
    (number_at (2 ^ 32 - 1) (codes "Flags") rows) (bytes_at (codes "Payload") rows)

-- the name of a member and the time of its status
abbrev pub member_meant : RowText → List ℕ × ℕ
member_meant row = (bytes_meant row.first, number_up_to max_clock row.second)

-- a slot with one more event, after its others
abbrev pub with_event : EventBody → SlotContent → SlotContent
with_event event empty = empty
with_event event (held time events) = held time (events ++ event ∷ [])

abbrev pub event_of_row : RowText → EventBody
event_of_row row = record { name = bytes_meant row.first; payload = bytes_meant row.second }

-- the slots after a change of the last slot
abbrev pub on_last : (SlotContent → SlotContent) → List SlotContent → List SlotContent
on_last change [] = []
on_last change (slot ∷ []) = change slot ∷ []
on_last change (slot ∷ next ∷ slots) = slot ∷ on_last change (next ∷ slots)

-- The line of a slot begins this slot, and the line of an event adds it to the last slot. `nil` is a slot of time 0
-- without events.
abbrev pub after_row : List SlotContent → RowText → List SlotContent
after_row slots row =
    if bytes_eq row.name (codes "slot") then slots ++ held (number_up_to last_time row.second) [] ∷ []
    else if bytes_eq row.name (codes "event") then on_last (with_event (event_of_row row)) slots
    else slots

abbrev pub slots_meant : List RowText → List SlotContent
slots_meant rows = fold after_row [] rows

unfoldable pub push_pull_meant : List RowText → PushPull
push_pull_meant rows = record {
  member_clock = number_at max_clock (codes "LTime") rows;
  status = map member_meant (rows_of (codes "status") rows);
  left = texts_at (codes "left") rows;
  event_clock = number_at max_clock (codes "EventLTime") rows;
  slots = slots_meant rows;
  query_clock = number_at max_clock (codes "QueryLTime") rows;
}

-- the message, whose kind the first line says
unfoldable pub meant_by : List ℕ → List RowText → Option Message
meant_by kind rows =
    if bytes_eq kind (codes "userEvent") then Some (event_meant rows)
    else if bytes_eq kind (codes "query") then Some (query (query_meant rows))
    else if bytes_eq kind (codes "queryResponse") then Some (response_meant rows)
    else if bytes_eq kind (codes "pushPull") then Some (push_pull (push_pull_meant rows))
    else if bytes_eq kind (codes "foreign") then Some (foreign (number_at 255 (codes "foreign") rows))
    else None

-- the kind that the first line says
abbrev pub kind_in : List RowText → List ℕ
kind_in [] = []
kind_in (row ∷ rows) = row.name

abbrev pub message_meant : List RowText → Option Message
message_meant rows = meant_by (kind_in rows) rows

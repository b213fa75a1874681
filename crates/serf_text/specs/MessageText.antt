-- The text of a message: Serf's name for its type, then a line for each field, in the order and with the names of
-- Serf's structs (messages.go: messageUserEvent, messageQuery, messageQueryResponse, messagePushPull, userEvents).
use Rattle.std.specs.Prelude.{ℕ, ℤ, ◌+◌, ◌++◌, List, [], ◌∷◌, codes, Result, Ok, Err}
use Rattle.std.specs.List.{flat_map}
use Rattle.serf_wire.specs.declared.texts.EventBody.{EventBody}
use Rattle.serf_wire.specs.declared.error.WireError.{WireError}
use Rattle.serf_wire.specs.Slots.{SlotContent, empty, held}
use Rattle.serf_wire.specs.Message.{Message, user_event, query, query_response, push_pull, foreign}
use Rattle.serf_text.specs.TextParts.{with_number, with_hex, number_line, signed_line, hex_line, flag_line}

-- the time and the ID, which identify a query
unfoldable pub identity_lines : ℕ → ℕ → List ℕ
identity_lines time id = number_line (codes "LTime") time ++ number_line (codes "ID") id

-- the node that fired the query
unfoldable pub asker_lines : List ℕ → ℕ → List ℕ → List ℕ
asker_lines addr port source = hex_line (codes "Addr") addr ++ number_line (codes "Port") port ++ hex_line (codes "SourceNode") source

-- the number of nodes that relay an answer
unfoldable pub relay_line : ℕ → List ℕ
relay_line relay_factor = number_line (codes "RelayFactor") relay_factor

-- this number, and how long answers are accepted, in nanoseconds
unfoldable pub limit_lines : ℕ → ℤ → List ℕ
limit_lines relay_factor timeout = relay_line relay_factor ++ signed_line (codes "Timeout") timeout

-- how a query should be handled
unfoldable pub handling_lines : ℕ → ℕ → ℤ → List ℕ
handling_lines flags relay_factor timeout = number_line (codes "Flags") flags ++ limit_lines relay_factor timeout

-- the node that answers, and its answer
unfoldable pub answer_lines : List ℕ → ℕ → List ℕ → List ℕ
answer_lines from flags payload = hex_line (codes "From") from ++ number_line (codes "Flags") flags ++ hex_line (codes "Payload") payload

-- the content of an event or a query
unfoldable pub content_lines : List ℕ → List ℕ → List ℕ
content_lines name payload = hex_line (codes "Name") name ++ hex_line (codes "Payload") payload

-- the name of a member, and the time of its status
unfoldable pub status_line : List ℕ × ℕ → List ℕ
status_line status = with_number (with_hex (codes "status") status.0) status.1 ++ codes "\n"

-- the member clock, the status times of the members, and the members that left
unfoldable pub member_lines : ℕ → List (List ℕ × ℕ) → List (List ℕ) → List ℕ
member_lines time status left =
    number_line (codes "LTime") time ++ flat_map status_line status ++ flat_map (hex_line (codes "left")) left

-- an event in a slot
unfoldable pub event_line : EventBody → List ℕ
event_line event = with_hex (with_hex (codes "event") event.name) event.payload ++ codes "\n"

-- a slot's number and `nil`, or its number, its time and its events
unfoldable pub slot_lines : ℕ → SlotContent → List ℕ
slot_lines number empty = with_number (codes "slot") number ++ codes " nil\n"
slot_lines number (held time events) = with_number (with_number (codes "slot") number) time ++ codes "\n" ++ flat_map event_line events

-- the slots, numbered from this number on
abbrev pub slots_lines : ℕ → List SlotContent → List ℕ
slots_lines number [] = []
slots_lines number (slot ∷ slots) = slot_lines number slot ++ slots_lines (number + 1) slots

-- the event clock and the event buffer
unfoldable pub buffer_lines : ℕ → List SlotContent → List ℕ
buffer_lines time slots = number_line (codes "EventLTime") time ++ slots_lines 0 slots

-- the first line of a response or an ack
unfoldable pub response_name : List ℕ
response_name = codes "queryResponse\n"

-- the lines of a query that come before its filters
unfoldable pub query_head : ℕ → ℕ → List ℕ → ℕ → List ℕ → List ℕ
query_head time id addr port source = codes "query\n" ++ identity_lines time id ++ asker_lines addr port source

-- the lines of a push/pull that come before its query clock
unfoldable pub push_pull_head : ℕ → List (List ℕ × ℕ) → List (List ℕ) → ℕ → List SlotContent → List ℕ
push_pull_head member_clock status left event_clock slots = codes "pushPull\n" ++ member_lines member_clock status left ++ buffer_lines event_clock slots

-- the filters have one line each; a type that isn't read has only a line with the type
abbrev pub message_text : Message → List ℕ
message_text (user_event e) = codes "userEvent\n" ++ number_line (codes "LTime") e.time ++ content_lines e.name e.payload ++ flag_line (codes "CC") e.coalesce
message_text (query q) = query_head q.time q.id q.addr q.port q.source
    ++ flat_map (hex_line (codes "filter")) q.filters ++ handling_lines q.flags q.relay_factor q.timeout ++ content_lines q.name q.payload
message_text (query_response r) = response_name ++ identity_lines r.time r.id ++ answer_lines r.from r.flags r.payload
message_text (push_pull m) = push_pull_head m.member_clock m.status m.left m.event_clock m.slots ++ number_line (codes "QueryLTime") m.query_clock
message_text (foreign kind) = number_line (codes "foreign") kind

-- the text of a packet's message, or the packet's first error
abbrev pub text_or_error : Result Message WireError → Result (List ℕ) WireError
text_or_error (Ok message) = Ok (message_text message)
text_or_error (Err error) = Err error

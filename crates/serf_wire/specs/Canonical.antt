-- The one canonical packet of a message: it has all fields, in the order of the table, and each value in its canonical
-- spelling.
use Rattle.std.specs.Prelude.{ℕ, Bool, false, List, [], ◌∷◌, ◌++◌, ◌||◌, length, codes, map, nat_le}
use Rattle.std.specs.List.{flat_map, list_any}
use Rattle.serf_pack.specs.Canonical.{map_head, array_head, raw_bytes, uint_bytes, int_bytes, flag_bytes}
use Rattle.serf_wire.specs.declared.texts.EventBody.{EventBody}
use Rattle.serf_wire.specs.Slots.{SlotContent, empty, held}
use Rattle.serf_wire.specs.Message.{Message, UserEvent, Query, QueryResponse, PushPull, user_event, query, query_response, push_pull, foreign}

-- a field: its key, followed by the bytes of its value
abbrev pub entry : List ℕ → List ℕ → List ℕ
entry name value = raw_bytes name ++ value

-- an array: its header, followed by the bytes of its items
abbrev pub list_bytes : {A : Type 0} → (A → List ℕ) → List A → List ℕ
list_bytes item xs = array_head (length xs) ++ flat_map item xs

abbrev pub status_time_bytes : List ℕ × ℕ → List ℕ
status_time_bytes p = entry p.0 (uint_bytes p.1)

abbrev pub status_bytes : List (List ℕ × ℕ) → List ℕ
status_bytes ps = map_head (length ps) ++ flat_map status_time_bytes ps

abbrev pub event_bytes : EventBody → List ℕ
event_bytes e = map_head 2 ++ entry (codes "Name") (raw_bytes e.name) ++ entry (codes "Payload") (raw_bytes e.payload)

-- a slot without events is nil
abbrev pub slot_bytes : SlotContent → List ℕ
slot_bytes empty = 0xc0 ∷ []
slot_bytes (held t []) = 0xc0 ∷ []
slot_bytes (held t (e ∷ es)) = map_head 2 ++ entry (codes "LTime") (uint_bytes t) ++ entry (codes "Events") (list_bytes event_bytes (e ∷ es))

abbrev pub canonical_event : UserEvent → List ℕ
canonical_event e =
    3 ∷ [] ++ map_head 4 ++ entry (codes "LTime") (uint_bytes e.time) ++ entry (codes "Name") (raw_bytes e.name) ++ entry (codes "Payload") (raw_bytes e.payload)
    ++ entry (codes "CC") (flag_bytes e.coalesce)

abbrev pub canonical_query : Query → List ℕ
canonical_query q =
    4 ∷ [] ++ map_head 11 ++ entry (codes "LTime") (uint_bytes q.time) ++ entry (codes "ID") (uint_bytes q.id) ++ entry (codes "Addr") (raw_bytes q.addr)
    ++ entry (codes "Port") (uint_bytes q.port) ++ entry (codes "SourceNode") (raw_bytes q.source) ++ entry (codes "Filters") (list_bytes raw_bytes q.filters)
    ++ entry (codes "Flags") (uint_bytes q.flags) ++ entry (codes "RelayFactor") (uint_bytes q.relay_factor) ++ entry (codes "Timeout") (int_bytes q.timeout)
    ++ entry (codes "Name") (raw_bytes q.name) ++ entry (codes "Payload") (raw_bytes q.payload)

abbrev pub canonical_response : QueryResponse → List ℕ
canonical_response r =
    5 ∷ [] ++ map_head 5 ++ entry (codes "LTime") (uint_bytes r.time) ++ entry (codes "ID") (uint_bytes r.id) ++ entry (codes "From") (raw_bytes r.from)
    ++ entry (codes "Flags") (uint_bytes r.flags) ++ entry (codes "Payload") (raw_bytes r.payload)

abbrev pub canonical_push_pull : PushPull → List ℕ
canonical_push_pull m =
    2 ∷ [] ++ map_head 6 ++ entry (codes "LTime") (uint_bytes m.member_clock) ++ entry (codes "StatusLTimes") (status_bytes m.status)
    ++ entry (codes "LeftMembers") (list_bytes raw_bytes m.left) ++ entry (codes "EventLTime") (uint_bytes m.event_clock) ++ entry (codes "Events") (list_bytes slot_bytes m.slots)
    ++ entry (codes "QueryLTime") (uint_bytes m.query_clock)

-- a message that is not read has only its type
unfoldable pub canonical : Message → List ℕ
canonical (user_event e) = canonical_event e
canonical (query q) = canonical_query q
canonical (query_response r) = canonical_response r
canonical (push_pull m) = canonical_push_pull m
canonical (foreign k) = k ∷ []

abbrev pub without_events : SlotContent → SlotContent
without_events empty = empty
without_events (held t []) = empty
without_events (held t (e ∷ es)) = held t (e ∷ es)

-- the message in which slots without events are empty
abbrev pub without_empty_slots : Message → Message
without_empty_slots (user_event e) = user_event e
without_empty_slots (query q) = query q
without_empty_slots (query_response r) = query_response r
without_empty_slots (push_pull m) = push_pull (record m { slots = map without_events m.slots })
without_empty_slots (foreign k) = foreign k

-- Which texts and lists are longer than 4,294,967,295, so that no header can state their length.
abbrev pub is_long : {A : Type 0} → List A → Bool
is_long xs = nat_le 4294967296 (length xs)

abbrev pub is_long_event : EventBody → Bool
is_long_event e = is_long e.name || is_long e.payload

abbrev pub is_long_slot : SlotContent → Bool
is_long_slot empty = false
is_long_slot (held t es) = is_long es || list_any is_long_event es

-- whether a text or a list of the message is that long
unfoldable pub has_long : Message → Bool
has_long (user_event e) = is_long e.name || is_long e.payload
has_long (query q) = is_long q.addr || is_long q.source || is_long q.filters || list_any is_long q.filters || is_long q.name || is_long q.payload
has_long (query_response r) = is_long r.from || is_long r.payload
has_long (push_pull m) = is_long m.status || list_any (λ p. is_long p.0) m.status || is_long m.left || list_any is_long m.left || is_long m.slots || list_any is_long_slot m.slots
has_long (foreign k) = false

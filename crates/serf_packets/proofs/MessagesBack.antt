-- The texts of all messages except push/pulls are read back.
use Rattle.serf_packets.proofs.Names.{Bool, List, Some, [], ap, arith, codes, decimal, false, map, refl, true, ℕ, ◌++◌, ◌<◌, ◌∙◌, ◌∷◌, ◌≡◌, signed_decimal, AllByRecursion, bytes_eq, flag_bytes, int_bytes, map_head, raw_bytes, uint_bytes, entry, list_bytes, canonical, Query, QueryResponse, UserEvent, foreign, query, query_response, user_event, IsRangedQuery, IsRangedResponse, message_text, answer_lines, asker_lines, content_lines, handling_lines, identity_lines, limit_lines, query_head, relay_line, response_name, flag_text, hex_text, message_meant, event_meant, meant_by, query_meant, response_meant, RowText, rows_in, value_of}
use Rattle.serf_packets.proofs.LinesBack.{Reads, ◌▸◌, at_end, no_row, past, reads_flag, reads_hex, reads_kind, reads_number, reads_signed, reads_texts, row, text_row, texts_back}
use Rattle.serf_packets.proofs.PacketBytes.{AreBytes, field_bytes, parts_bytes, texts_bytes}
use Rattle.serf_packets.proofs.TakenLaws.{ReadsBack}
use Rattle.serf_packets.proofs.WordsBack.{bytes_back, number_back, signed_back}

-- the name and the payload of an event or a query
content : (name payload : List ℕ) → AreBytes name → AreBytes payload
    → Reads (content_lines name payload) (λ rs. row (codes "Name") (hex_text name) [] ∷ row (codes "Payload") (hex_text payload) [] ∷ rs)
unfolding content_lines
content name payload n p = reads_hex (codes "Name") name refl n ▸ reads_hex (codes "Payload") payload refl p

-- A user event

flag-back : (b : Bool) → bytes_eq (flag_text b) (codes "1") ≡ b
flag-back true = refl
flag-back false = refl

event-meant : (e : UserEvent) → e.time < 18446744073709551615 → AreBytes e.name → AreBytes e.payload → message_meant (rows_in (message_text (user_event e))) ≡ Some (user_event e)
unfolding meant_by event_meant
event-meant e t n p =
    let lines = reads_kind (codes "userEvent") refl ▸ reads_number (codes "LTime") e.time refl (omega arith) ▸ content e.name e.payload n p ▸ reads_flag (codes "CC") e.coalesce refl in
    ap message_meant (at_end lines)
    ∙ rw (number_back 18446744073709551614 e.time (omega arith) (omega arith), bytes_back e.name n.each, bytes_back e.payload p.each, flag-back e.coalesce) refl

pub event_back : (e : UserEvent) → ReadsBack (user_event e)
unfolding canonical
event_back e time bytes few =
    let each = parts_bytes (3 ∷ [] ++ map_head 4)
    (entry (codes "LTime") (uint_bytes e.time) ∷ entry (codes "Name") (raw_bytes e.name) ∷ entry (codes "Payload") (raw_bytes e.payload) ∷ entry (codes "CC") (flag_bytes e.coalesce) ∷ [])
    (record { each = bytes }) in
    record {
      back = user_event e;
      meant = event-meant e time (field_bytes (codes "Name") e.name each.1.0) (field_bytes (codes "Payload") e.payload each.1.1.0);
      short = few;
      same = refl;
    }

-- A query

-- the limits of its numbers, and its texts
record IsReadable (q : Query) : Type 0 where
  pub ranged : IsRangedQuery q
  pub addr : AreBytes q.addr
  pub source : AreBytes q.source
  pub filters : AllByRecursion AreBytes q.filters
  pub name : AreBytes q.name
  pub payload : AreBytes q.payload

-- the lines after the filters
abbrev tail-rows : Query → List RowText → List RowText
tail-rows q rs =
    row (codes "Flags") (decimal q.flags) [] ∷ row (codes "RelayFactor") (decimal q.relay_factor) [] ∷ row (codes "Timeout") (signed_decimal q.timeout) []
    ∷ row (codes "Name") (hex_text q.name) [] ∷ row (codes "Payload") (hex_text q.payload) [] ∷ rs

abbrev query-rows : Query → List RowText → List RowText
query-rows q rs =
    row (codes "query") [] [] ∷ row (codes "LTime") (decimal q.time) [] ∷ row (codes "ID") (decimal q.id) [] ∷ row (codes "Addr") (hex_text q.addr) []
    ∷ row (codes "Port") (decimal q.port) [] ∷ row (codes "SourceNode") (hex_text q.source) [] ∷ (map (text_row (codes "filter")) q.filters ++ tail-rows q rs)

query-lines : (q : Query) → IsReadable q → Reads (message_text (query q)) (query-rows q)
unfolding query_head identity_lines asker_lines handling_lines limit_lines relay_line
query-lines q h =
    let late = h.ranged.time in
    let small = h.ranged.id in
    let near = h.ranged.port in
    let few = h.ranged.flags in
    let close = h.ranged.relay_factor in
    reads_kind (codes "query") refl ▸ (reads_number (codes "LTime") q.time refl (omega arith) ▸ reads_number (codes "ID") q.id refl (omega arith))
    ▸ (reads_hex (codes "Addr") q.addr refl h.addr ▸ reads_number (codes "Port") q.port refl (omega arith) ▸ reads_hex (codes "SourceNode") q.source refl h.source)
    ▸ reads_texts (codes "filter") q.filters refl h.filters
    ▸ (reads_number (codes "Flags") q.flags refl (omega arith)
    ▸ (reads_number (codes "RelayFactor") q.relay_factor refl (omega arith) ▸ reads_signed (codes "Timeout") q.timeout refl h.ranged.timeout))
    ▸ content q.name q.payload h.name h.payload

-- a value after the filters
past-filters : (name : List ℕ) (q : Query) → ((text : List ℕ) (rs : List RowText) → value_of name (text_row (codes "filter") text ∷ rs) ≡ value_of name rs)
    → value_of name (map (text_row (codes "filter")) q.filters ++ tail-rows q (no_row ∷ [])) ≡ value_of name (tail-rows q (no_row ∷ []))
past-filters name q other = past (value_of name) (text_row (codes "filter")) other q.filters (tail-rows q (no_row ∷ []))

query-meant : (q : Query) → IsReadable q → query_meant (query-rows q (no_row ∷ [])) ≡ q
unfolding query_meant
query-meant q h =
    let late = h.ranged.time in
    let small = h.ranged.id in
    let near = h.ranged.port in
    let few = h.ranged.flags in
    let close = h.ranged.relay_factor in
    rw (
      number_back 18446744073709551614 q.time (omega arith) (omega arith),
      number_back 4294967295 q.id (omega arith) (omega arith),
      bytes_back q.addr h.addr.each,
      number_back 65535 q.port (omega arith) (omega arith),
      bytes_back q.source h.source.each,
      texts_back (codes "filter") q.filters (tail-rows q (no_row ∷ [])) refl h.filters refl,
      past-filters (codes "Flags") q (λ text rs. refl),
      number_back 4294967295 q.flags (omega arith) (omega arith),
      past-filters (codes "RelayFactor") q (λ text rs. refl),
      number_back 255 q.relay_factor (omega arith) (omega arith),
      past-filters (codes "Timeout") q (λ text rs. refl),
      signed_back q.timeout h.ranged.timeout,
      past-filters (codes "Name") q (λ text rs. refl),
      bytes_back q.name h.name.each,
      past-filters (codes "Payload") q (λ text rs. refl),
      bytes_back q.payload h.payload.each,
    ) refl

readable : (q : Query) → IsRangedQuery q → AreBytes (canonical (query q)) → IsReadable q
unfolding canonical
readable q ranged h =
    let handling = entry (codes "Flags") (uint_bytes q.flags) ∷ entry (codes "RelayFactor") (uint_bytes q.relay_factor) ∷ entry (codes "Timeout") (int_bytes q.timeout) ∷ [] in
    let content = entry (codes "Name") (raw_bytes q.name) ∷ entry (codes "Payload") (raw_bytes q.payload) ∷ [] in
    let asker = entry (codes "Addr") (raw_bytes q.addr) ∷ entry (codes "Port") (uint_bytes q.port) ∷ entry (codes "SourceNode") (raw_bytes q.source) ∷ [] in
    let each = parts_bytes (4 ∷ [] ++ map_head 11) (entry (codes "LTime") (uint_bytes q.time) ∷ entry (codes "ID") (uint_bytes q.id)
    ∷ asker ++ entry (codes "Filters") (list_bytes raw_bytes q.filters) ∷ handling ++ content) h in
    let last = each.1.1.1.1.1.1.1.1.1 in
    record {
      ranged = ranged;
      addr = field_bytes (codes "Addr") q.addr each.1.1.0;
      source = field_bytes (codes "SourceNode") q.source each.1.1.1.1.0;
      filters = texts_bytes (codes "Filters") q.filters each.1.1.1.1.1.0;
      name = field_bytes (codes "Name") q.name last.0;
      payload = field_bytes (codes "Payload") q.payload last.1.0;
    }

pub query_back : (q : Query) → ReadsBack (query q)
unfolding meant_by
query_back q fits bytes few =
    let h = readable q fits (record { each = bytes }) in
    record {
      back = query q;
      meant = ap message_meant (at_end (query-lines q h)) ∙ ap (λ r. Some (query r)) (query-meant q h);
      short = few;
      same = refl;
    }

-- A response

response-meant : (r : QueryResponse) → IsRangedResponse r → AreBytes r.from → AreBytes r.payload → message_meant (rows_in (message_text (query_response r))) ≡ Some (query_response r)
unfolding meant_by response_meant response_name identity_lines answer_lines
response-meant r ranged f p =
    let late = ranged.time in
    let small = ranged.id in
    let few = ranged.flags in
    let lines = reads_kind (codes "queryResponse") refl ▸ (reads_number (codes "LTime") r.time refl late ▸ reads_number (codes "ID") r.id refl (omega arith))
    ▸ (reads_hex (codes "From") r.from refl f ▸ reads_number (codes "Flags") r.flags refl (omega arith) ▸ reads_hex (codes "Payload") r.payload refl p) in
    ap message_meant (at_end lines)
    ∙ rw (
      number_back 18446744073709551615 r.time (omega arith) (omega arith),
      number_back 4294967295 r.id (omega arith) (omega arith),
      bytes_back r.from f.each,
      number_back 4294967295 r.flags (omega arith) (omega arith),
      bytes_back r.payload p.each,
    ) refl

pub response_back : (r : QueryResponse) → ReadsBack (query_response r)
unfolding canonical
response_back r fits bytes few =
    let each = parts_bytes (5 ∷ [] ++ map_head 5)
    (entry (codes "LTime") (uint_bytes r.time) ∷ entry (codes "ID") (uint_bytes r.id) ∷ entry (codes "From") (raw_bytes r.from) ∷ entry (codes "Flags") (uint_bytes r.flags)
    ∷ entry (codes "Payload") (raw_bytes r.payload) ∷ []) (record { each = bytes }) in
    record {
      back = query_response r;
      meant = response-meant r fits (field_bytes (codes "From") r.from each.1.1.0) (field_bytes (codes "Payload") r.payload each.1.1.1.1.0);
      short = few;
      same = refl;
    }

-- A foreign message

foreign-meant : (kind : ℕ) → kind < 256 → message_meant (rows_in (message_text (foreign kind))) ≡ Some (foreign kind)
unfolding meant_by
foreign-meant kind h = ap message_meant (at_end (reads_number (codes "foreign") kind refl (omega arith))) ∙ rw (number_back 255 kind (omega arith) (omega arith)) refl

-- the type of the message is a byte
pub foreign_back : (kind : ℕ) → ReadsBack (foreign kind)
unfolding canonical
foreign_back kind fits bytes few = record { back = foreign kind; meant = foreign-meant kind (bytes 0); short = few; same = refl }

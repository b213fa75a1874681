-- The text of a push/pull is read back.
use Rattle.serf_packets.proofs.Names.{Bool, List, Some, [], ap, append_assoc, arith, codes, decimal, false, length, map, refl, subst, sym, true, ℕ, ◌++◌, ◌+◌, ◌<◌, ◌∙◌, ◌∷◌, ◌≡◌, ◌≤◌, common_steps, append-nil, length-map, flat_map-map, AllByRecursion, flat_map, fold, list_any, nat_le, ◌||◌, array_head, map_head, raw_bytes, uint_bytes, entry, event_bytes, is_long, is_long_slot, list_bytes, slot_bytes, status_bytes, status_time_bytes, canonical, has_long, PushPull, push_pull, IsRangedPushPull, IsTimed, SlotContent, empty, held, EventBody, message_text, slots_lines, buffer_lines, event_line, member_lines, push_pull_head, slot_lines, status_line, hex_text, with_hex, with_number, after_row, event_of_row, member_meant, message_meant, on_last, slots_meant, texts_at, with_event, meant_by, push_pull_meant, RowText, rows_of, value_of}
use Rattle.serf_packets.proofs.LinesBack.{Reads, ◌▸◌, at_end, list_back, no_row, past, reads_kind, reads_listed, reads_number, reads_texts, reads_triple, row, text_row, texts_back}
use Rattle.serf_packets.proofs.PacketBytes.{AreBytes, field_bytes, front, items_bytes, parts_bytes, raw_text, texts_bytes}
use Rattle.serf_packets.proofs.ListLaws.{last-on}
use Rattle.serf_packets.proofs.TakenLaws.{ReadsBack}
use Rattle.serf_packets.proofs.WordsBack.{bytes_back, number_back, plain_bytes, plain_number}

-- What its lines can express: texts of bytes, and numbers of 64 bits

record IsSaidEvent (e : EventBody) : Type 0 where
  pub name : AreBytes e.name
  pub payload : AreBytes e.payload

abbrev HasBytes : SlotContent → Type 0
HasBytes empty = Unit {0}
HasBytes (held t es) = AllByRecursion IsSaidEvent es

abbrev IsSaidSlot : SlotContent → Type 0
IsSaidSlot slot = HasBytes slot × IsTimed slot

abbrev IsSaidMember : List ℕ × ℕ → Type 0
IsSaidMember p = AreBytes p.0 × (p.1 < 18446744073709551616)

record IsSaid (m : PushPull) : Type 0 where
  pub ranged : IsRangedPushPull m
  pub status : AllByRecursion IsSaidMember m.status
  pub left : AllByRecursion AreBytes m.left
  pub slots : AllByRecursion IsSaidSlot m.slots
  pub few : length m.slots < 4294967296

-- Its lines

abbrev member-row : List ℕ × ℕ → RowText
member-row p = row (codes "status") (hex_text p.0) (decimal p.1)

member-line : (p : List ℕ × ℕ) → IsSaidMember p → Reads (status_line p) (λ rs. member-row p ∷ rs)
unfolding status_line with_number with_hex
member-line p h = reads_triple (codes "status") (hex_text p.0) (decimal p.1) refl (plain_bytes p.0 h.0.each) (plain_number p.1 h.1)

abbrev event-row : EventBody → RowText
event-row e = row (codes "event") (hex_text e.name) (hex_text e.payload)

event-said-line : (e : EventBody) → IsSaidEvent e → Reads (event_line e) (λ rs. event-row e ∷ rs)
unfolding event_line with_hex
event-said-line e h = reads_triple (codes "event") (hex_text e.name) (hex_text e.payload) refl (plain_bytes e.name h.name.each) (plain_bytes e.payload h.payload.each)

-- the lines of a slot, followed by others
abbrev slot-rows : ℕ → SlotContent → List RowText → List RowText
slot-rows n empty rest = row (codes "slot") (decimal n) (codes "nil") ∷ rest
slot-rows n (held t es) rest = row (codes "slot") (decimal n) (decimal t) ∷ (map event-row es ++ rest)

slot-lines : (n : ℕ) (slot : SlotContent) → n < 4294967296 → IsSaidSlot slot → Reads (slot_lines n slot) (slot-rows n slot)
unfolding slot_lines with_number
slot-lines n empty low h =
    let start = codes "slot" ++ codes " " ++ decimal n in
    subst (λ (text : List ℕ). Reads text (slot-rows n empty)) (ap (λ line. line ++ codes "\n") (append_assoc start (codes " ") (codes "nil")) ∙ append_assoc start (codes " nil") (codes "\n"))
    (reads_triple (codes "slot") (decimal n) (codes "nil") refl (plain_number n (omega arith)) (record { each = refl }))
slot-lines n (held t es) low h =
    let early = h.1 in
    reads_triple (codes "slot") (decimal n) (decimal t) refl (plain_number n (omega arith)) (plain_number t (omega arith)) ▸ reads_listed IsSaidEvent event_line event-row event-said-line es h.0

-- the lines of slots, of which the first has this number
abbrev slots-rows : ℕ → List SlotContent → List RowText → List RowText
slots-rows n [] rest = rest
slots-rows n (slot ∷ slots) rest = slot-rows n slot (slots-rows (n + 1) slots rest)

slots-lines : (n : ℕ) (slots : List SlotContent) → n + length slots ≤ 4294967296 → AllByRecursion IsSaidSlot slots → Reads (slots_lines n slots) (slots-rows n slots)
slots-lines n [] low h = record { each = λ rest. refl }
slots-lines n (slot ∷ slots) low h = slot-lines n slot (omega arith) h.0 ▸ slots-lines (n + 1) slots (omega arith) h.1

-- the lines after the members
abbrev buffer-rows : PushPull → List RowText → List RowText
buffer-rows m rs = row (codes "EventLTime") (decimal m.event_clock) [] ∷ slots-rows 0 m.slots (row (codes "QueryLTime") (decimal m.query_clock) [] ∷ rs)

abbrev state-rows : PushPull → List RowText → List RowText
state-rows m rs =
    row (codes "pushPull") [] [] ∷ row (codes "LTime") (decimal m.member_clock) [] ∷ (map member-row m.status ++ (map (text_row (codes "left")) m.left ++ buffer-rows m rs))

state-lines : (m : PushPull) → IsSaid m → Reads (message_text (push_pull m)) (state-rows m)
unfolding push_pull_head member_lines buffer_lines
state-lines m h =
    let few = h.few in
    reads_kind (codes "pushPull") refl
    ▸ (reads_number (codes "LTime") m.member_clock refl h.ranged.member_clock ▸ reads_listed IsSaidMember status_line member-row member-line m.status h.status
    ▸ reads_texts (codes "left") m.left refl h.left)
    ▸ (reads_number (codes "EventLTime") m.event_clock refl h.ranged.event_clock ▸ slots-lines 0 m.slots (omega arith) h.slots)
    ▸ reads_number (codes "QueryLTime") m.query_clock refl h.ranged.query_clock

-- What the lines say about the slots

-- a nil slot is read as a slot of time 0 without events
abbrev refilled : SlotContent → SlotContent
refilled empty = held 0 []
refilled (held t es) = held t es

event-added : (slots : List SlotContent) (t : ℕ) (before : List EventBody) (e : EventBody) → IsSaidEvent e
    → after_row (slots ++ held t before ∷ []) (event-row e) ≡ slots ++ held t (before ++ e ∷ []) ∷ []
event-added slots t before e h =
    let meant : event_of_row (event-row e) ≡ e = rw (bytes_back e.name h.name.each, bytes_back e.payload h.payload.each) refl in
    ap (λ event. on_last (with_event event) (slots ++ held t before ∷ [])) meant ∙ last-on (with_event e) slots (held t before)

events-added : (slots : List SlotContent) (t : ℕ) (before es : List EventBody) (rest : List RowText) → AllByRecursion IsSaidEvent es
    → fold after_row (slots ++ held t before ∷ []) (map event-row es ++ rest) ≡ fold after_row (slots ++ held t (before ++ es) ∷ []) rest
events-added slots t before [] rest h = ap (λ events. fold after_row (slots ++ held t events ∷ []) rest) (sym (append-nil before))
events-added slots t before (e ∷ es) rest h =
    ap (λ seen. fold after_row seen (map event-row es ++ rest)) (event-added slots t before e h.0)
    ∙ events-added slots t (before ++ e ∷ []) es rest h.1
    ∙ ap (λ events. fold after_row (slots ++ held t events ∷ []) rest) (append_assoc before (e ∷ []) es)

slots-added : (n : ℕ) (slots more : List SlotContent) (rest : List RowText) → AllByRecursion IsSaidSlot more
    → fold after_row slots (slots-rows n more rest) ≡ fold after_row (slots ++ map refilled more) rest
slots-added n slots [] rest h = ap (λ seen. fold after_row seen rest) (sym (append-nil slots))
slots-added n slots (empty ∷ more) rest h =
    slots-added (n + 1) (slots ++ held 0 [] ∷ []) more rest h.1
    ∙ ap (λ seen. fold after_row seen rest) (append_assoc slots (held 0 [] ∷ []) (map refilled more))
slots-added n slots (held t es ∷ more) rest h =
    let early = h.0.1 in
    ap (λ time. fold after_row (slots ++ held time [] ∷ []) (map event-row es ++ slots-rows (n + 1) more rest)) (number_back 18446744073709551614 t (omega arith) (omega arith))
    ∙ events-added slots t [] es (slots-rows (n + 1) more rest) h.0.0
    ∙ slots-added (n + 1) (slots ++ held t es ∷ []) more rest h.1
    ∙ ap (λ seen. fold after_row seen rest) (append_assoc slots (held t es ∷ []) (map refilled more))

-- Readings that skip members, and readings that skip slots

past-members : {B : Type 0} (g : List RowText → B) → ((p : List ℕ × ℕ) (rs : List RowText) → g (member-row p ∷ rs) ≡ g rs)
    → ((text : List ℕ) (rs : List RowText) → g (text_row (codes "left") text ∷ rs) ≡ g rs)
    → (m : PushPull) (rest : List RowText) → g (map member-row m.status ++ (map (text_row (codes "left")) m.left ++ rest)) ≡ g rest
past-members g member left m rest = past g member-row member m.status (map (text_row (codes "left")) m.left ++ rest) ∙ past g (text_row (codes "left")) left m.left rest

past-slots : {B : Type 0} (g : List RowText → B) → ((number time : List ℕ) (rs : List RowText) → g (row (codes "slot") number time ∷ rs) ≡ g rs)
    → ((e : EventBody) (rs : List RowText) → g (event-row e ∷ rs) ≡ g rs)
    → (n : ℕ) (slots : List SlotContent) (rest : List RowText) → g (slots-rows n slots rest) ≡ g rest
past-slots g slot event n [] rest = refl
past-slots g slot event n (empty ∷ slots) rest = slot (decimal n) (codes "nil") (slots-rows (n + 1) slots rest) ∙ past-slots g slot event (n + 1) slots rest
past-slots g slot event n (held t es ∷ slots) rest =
    slot (decimal n) (decimal t) (map event-row es ++ slots-rows (n + 1) slots rest) ∙ past g event-row event es (slots-rows (n + 1) slots rest)
    ∙ past-slots g slot event (n + 1) slots rest

-- The whole text

-- the same push/pull with its slots changed
abbrev pub with_slots : (SlotContent → SlotContent) → PushPull → PushPull
with_slots change m = record m { slots = map change m.slots }

status-back : (m : PushPull) → IsSaid m → map member_meant (rows_of (codes "status") (state-rows m (no_row ∷ []))) ≡ m.status
status-back m h =
    list_back IsSaidMember (codes "status") member-row member_meant (λ p. refl)
    (λ p h. rw (bytes_back p.0 h.0.each, number_back 18446744073709551615 p.1 (omega (arith, h.1)) (omega arith)) refl)
    m.status (map (text_row (codes "left")) m.left ++ buffer-rows m (no_row ∷ [])) h.status
    (past (rows_of (codes "status")) (text_row (codes "left")) (λ text rs. refl) m.left (buffer-rows m (no_row ∷ []))
    ∙ past-slots (rows_of (codes "status")) (λ n t rs. refl) (λ e rs. refl) 0 m.slots (row (codes "QueryLTime") (decimal m.query_clock) [] ∷ no_row ∷ []))

left-back : (m : PushPull) → IsSaid m → texts_at (codes "left") (state-rows m (no_row ∷ [])) ≡ m.left
left-back m h =
    past (texts_at (codes "left")) member-row (λ p rs. refl) m.status (map (text_row (codes "left")) m.left ++ buffer-rows m (no_row ∷ []))
    ∙ texts_back (codes "left") m.left (buffer-rows m (no_row ∷ [])) refl h.left
    (past-slots (rows_of (codes "left")) (λ n t rs. refl) (λ e rs. refl) 0 m.slots (row (codes "QueryLTime") (decimal m.query_clock) [] ∷ no_row ∷ []))

slots-back : (m : PushPull) → IsSaid m → slots_meant (state-rows m (no_row ∷ [])) ≡ map refilled m.slots
slots-back m h =
    past-members (fold after_row []) (λ p rs. refl) (λ text rs. refl) m (buffer-rows m (no_row ∷ []))
    ∙ slots-added 0 [] m.slots (row (codes "QueryLTime") (decimal m.query_clock) [] ∷ no_row ∷ []) h.slots

state-meant : (m : PushPull) → IsSaid m → push_pull_meant (state-rows m (no_row ∷ [])) ≡ with_slots refilled m
unfolding push_pull_meant
state-meant m h =
    let low = h.ranged.member_clock in
    let early = h.ranged.event_clock in
    let late = h.ranged.query_clock in
    let rest = row (codes "QueryLTime") (decimal m.query_clock) [] ∷ no_row ∷ [] in
    rw (
      number_back 18446744073709551615 m.member_clock (omega arith) (omega arith),
      status-back m h,
      left-back m h,
      slots-back m h,
      past-members (value_of (codes "EventLTime")) (λ p rs. refl) (λ text rs. refl) m (buffer-rows m (no_row ∷ [])),
      number_back 18446744073709551615 m.event_clock (omega arith) (omega arith),
      past-members (value_of (codes "QueryLTime")) (λ p rs. refl) (λ text rs. refl) m (buffer-rows m (no_row ∷ [])),
      past-slots (value_of (codes "QueryLTime")) (λ n t rs. refl) (λ e rs. refl) 0 m.slots rest,
      number_back 18446744073709551615 m.query_clock (omega arith) (omega arith),
    ) refl

-- Its packet

member-bytes : (p : List ℕ × ℕ) → AreBytes (status_time_bytes p) → AreBytes p.0
member-bytes p h = raw_text p.0 (front (raw_bytes p.0) (uint_bytes p.1) h)

event-said : (e : EventBody) → AreBytes (event_bytes e) → IsSaidEvent e
event-said e h =
    let each = parts_bytes (map_head 2) (entry (codes "Name") (raw_bytes e.name) ∷ entry (codes "Payload") (raw_bytes e.payload) ∷ []) h in
    record { name = field_bytes (codes "Name") e.name each.0; payload = field_bytes (codes "Payload") e.payload each.1.0 }

slot-bytes : (slot : SlotContent) → AreBytes (slot_bytes slot) → HasBytes slot
slot-bytes empty h = tt
slot-bytes (held t []) h = tt
slot-bytes (held t (e ∷ es)) h =
    let each = parts_bytes (map_head 2) (entry (codes "LTime") (uint_bytes t) ∷ entry (codes "Events") (list_bytes event_bytes (e ∷ es)) ∷ []) h in
    items_bytes IsSaidEvent event_bytes event-said (codes "Events") (array_head (length (e ∷ es))) (e ∷ es) each.1.0

both-each : {A : Type 0} (P Q : A → Type 0) (xs : List A) → AllByRecursion P xs → AllByRecursion Q xs → AllByRecursion (λ x. P x × Q x) xs
both-each P Q [] p q = tt
both-each P Q (x ∷ xs) p q = ((p.0, q.0), both-each P Q xs p.1 q.1)

middle : (a b c : Bool) → (a || b || c) ≡ false → b ≡ false
middle true b c h = absurd (cc h)
middle false true c h = absurd (cc h)
middle false false c h = refl

few-slots : (m : PushPull) → has_long (push_pull m) ≡ false → length m.slots < 4294967296
unfolding has_long
few-slots m h =
    let lists = is_long m.status || list_any (λ p. is_long p.0) m.status || is_long m.left || list_any is_long m.left in
    let short : nat_le 4294967296 (length m.slots) ≡ false = middle lists (is_long m.slots) (list_any is_long_slot m.slots) h in
    grind (arith, common_steps)

said : (m : PushPull) → IsRangedPushPull m → has_long (push_pull m) ≡ false → AreBytes (canonical (push_pull m)) → IsSaid m
unfolding canonical
said m ranged short h =
    let status = entry (codes "StatusLTimes") (status_bytes m.status) in
    let left = entry (codes "LeftMembers") (list_bytes raw_bytes m.left) in
    let slots = entry (codes "Events") (list_bytes slot_bytes m.slots) in
    let buffer = entry (codes "EventLTime") (uint_bytes m.event_clock) ∷ slots ∷ entry (codes "QueryLTime") (uint_bytes m.query_clock) ∷ [] in
    let each = parts_bytes (2 ∷ [] ++ map_head 6) (entry (codes "LTime") (uint_bytes m.member_clock) ∷ status ∷ left ∷ buffer) h in
    let names = items_bytes (λ p. AreBytes p.0) status_time_bytes member-bytes (codes "StatusLTimes") (map_head (length m.status)) m.status each.1.0 in
    let events = items_bytes HasBytes slot_bytes slot-bytes (codes "Events") (array_head (length m.slots)) m.slots each.1.1.1.1.0 in
    record {
      ranged = ranged;
      status = both-each (λ p. AreBytes p.0) (λ p. p.1 < 18446744073709551616) m.status names ranged.status;
      left = texts_bytes (codes "LeftMembers") m.left each.1.1.0;
      slots = both-each HasBytes IsTimed m.slots events ranged.slots;
      few = few-slots m short;
    }

-- a change of slots that can't be seen in a packet
pub record IsUntold (change : SlotContent → SlotContent) : Type 0 where
  pub bytes : (slot : SlotContent) → slot_bytes (change slot) ≡ slot_bytes slot
  pub long : (slot : SlotContent) → is_long_slot (change slot) ≡ is_long_slot slot

pub same_packet : (change : SlotContent → SlotContent) → IsUntold change → (m : PushPull) → canonical (push_pull (with_slots change m)) ≡ canonical (push_pull m)
unfolding canonical
same_packet change u m =
    let bytes : flat_map (λ slot. slot_bytes (change slot)) m.slots ≡ flat_map slot_bytes m.slots = λ k. flat_map (λ slot. u.bytes slot k) m.slots in
    rw (length-map m.slots change, flat_map-map slot_bytes change m.slots, bytes) refl

same-any : (change : SlotContent → SlotContent) → IsUntold change → (slots : List SlotContent) → list_any is_long_slot (map change slots) ≡ list_any is_long_slot slots
same-any change u [] = refl
same-any change u (slot ∷ slots) = rw (u.long slot) (ap (λ b. is_long_slot slot || b) (same-any change u slots))

pub same_lengths : (change : SlotContent → SlotContent) → IsUntold change → (m : PushPull) → has_long (push_pull (with_slots change m)) ≡ has_long (push_pull m)
unfolding has_long
same_lengths change u m = rw (length-map m.slots change, same-any change u m.slots) refl

refilled-bytes : (slot : SlotContent) → slot_bytes (refilled slot) ≡ slot_bytes slot
refilled-bytes empty = refl
refilled-bytes (held t es) = refl

refilled-long : (slot : SlotContent) → is_long_slot (refilled slot) ≡ is_long_slot slot
refilled-long empty = refl
refilled-long (held t es) = refl

pub push_pull_back : (m : PushPull) → ReadsBack (push_pull m)
unfolding meant_by
push_pull_back m fits bytes short =
    let h = said m fits short (record { each = bytes }) in
    let untold : IsUntold refilled = record { bytes = refilled-bytes; long = refilled-long } in
    record {
      back = push_pull (with_slots refilled m);
      meant = ap message_meant (at_end (state-lines m h)) ∙ ap (λ s. Some (push_pull s)) (state-meant m h);
      short = same_lengths refilled untold m ∙ short;
      same = same_packet refilled untold m;
    }

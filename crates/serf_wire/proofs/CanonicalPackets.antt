-- The canonical packet of each message spells it.
use Rattle.serf_wire.proofs.Names.{List, Option, Some, [], ap, append-nil, append_assoc, arith, codes, false, length, lit<, map, refl, subst, sym, ℕ, ◌++◌, ◌+◌, ◌<◌, ◌||◌, ◌∙◌, ◌∷◌, ◌≡◌, AllByRecursion, list_any, max_clock, flag_bytes, int_bytes, map_head, raw_bytes, uint_bytes, Packs, Tree, nil, pairs, item_list, pair_list, Below, canonical_event, canonical_push_pull, canonical_query, canonical_response, entry, event_bytes, is_long, is_long_event, is_long_slot, list_bytes, slot_bytes, status_bytes, without_empty_slots, without_events, canonical, has_long, all, both, event_body, slot, status_time, text, time, Message, PushPull, Query, QueryResponse, UserEvent, foreign, push_pull, query, query_response, user_event, InRange, IsRangedPushPull, IsRangedQuery, IsRangedResponse, IsTimed, SlotContent, empty, held, IsPushPull, IsQuery, IsQueryResponse, IsUserEvent, Spells, SpellsAfter, EventBody}
use Rattle.serf_wire.proofs.Short.{short, neither, short_query}
use Rattle.serf_wire.proofs.Spelling.{Part, IsPart, text_part, number_part, int_part, flag_part, text_is_part, number_is_part, int_is_part, flag_is_part, items_from, array_part, array_is_part, Entry, IsEntry, pairs_from, map_part, map_is_part, entries_part, entries_are_part, all_read, map_same, none_all, both_all, all_true, within}

pub text_entry : Below → (d : ℕ) (name s : List ℕ) → length name < 4294967296 → length s < 4294967296 → IsEntry d (record { name = name; value = text_part s })
text_entry below d name s short lt = record { short = short; is = text_is_part below d s lt }

pub number_entry : Below → (d : ℕ) (name : List ℕ) (n : ℕ) → length name < 4294967296 → n < 18446744073709551616 → IsEntry d (record { name = name; value = number_part n })
number_entry below d name n short lt = record { short = short; is = number_is_part below d n lt }

-- ---- user events

abbrev event_entries : UserEvent → List Entry
event_entries e =
    record { name = codes "LTime"; value = number_part e.time } ∷ record { name = codes "Name"; value = text_part e.name } ∷ record { name = codes "Payload"; value = text_part e.payload }
    ∷ record { name = codes "CC"; value = flag_part e.coalesce } ∷ []

regroup_four : (h a b c d : List ℕ) → (((h ++ a) ++ b) ++ c) ++ d ≡ h ++ (a ++ (b ++ (c ++ (d ++ []))))
regroup_four h a b c d = simp (append_assoc, append-nil)

event_fields : (e : UserEvent) → e.time < 18446744073709551615 → (p : ℕ) → IsUserEvent e (pair_list (pairs_from (λ x. x) p (event_entries e)))
event_fields e lt p = record { keys = (refl, (refl, (refl, (refl, tt)))); time = within 18446744073709551614 e.time (omega arith); name = refl; payload = refl; coalesce = refl }

pub event_spelled : Below → (e : UserEvent) → e.time < 18446744073709551615 → length e.name < 4294967296 → length e.payload < 4294967296 → Spells (user_event e) (canonical_event e)
event_spelled below e time name payload =
    let are : AllByRecursion (IsEntry 1) (event_entries e) = (number_entry below 1 (codes "LTime") e.time (lit< tt) (omega arith), (text_entry below 1 (codes "Name") e.name (lit< tt) name, (text_entry below 1 (codes "Payload") e.payload (lit< tt) payload, (record { short = lit< tt; is = flag_is_part 1 e.coalesce }, tt)))) in (
      pairs_from (λ x. x) 1 (event_entries e),
      subst (Packs (pairs 0 (pairs_from (λ x. x) 1 (event_entries e))) 0 0)
          (sym (regroup_four (map_head 4) (entry (codes "LTime") (uint_bytes e.time)) (entry (codes "Name") (raw_bytes e.name)) (entry (codes "Payload") (raw_bytes e.payload)) (entry (codes "CC") (flag_bytes e.coalesce))))
          (entries_are_part below 0 (event_entries e) (lit< tt) are (lit< tt) 0),
      event_fields e time 1,
    )

-- ---- responses

abbrev response_entries : QueryResponse → List Entry
response_entries r =
    record { name = codes "LTime"; value = number_part r.time } ∷ record { name = codes "ID"; value = number_part r.id } ∷ record { name = codes "From"; value = text_part r.from }
    ∷ record { name = codes "Flags"; value = number_part r.flags } ∷ record { name = codes "Payload"; value = text_part r.payload } ∷ []

regroup_five : (h a b c d e : List ℕ) → ((((h ++ a) ++ b) ++ c) ++ d) ++ e ≡ h ++ (a ++ (b ++ (c ++ (d ++ (e ++ [])))))
regroup_five h a b c d e = simp (append_assoc, append-nil)

response_fields : (r : QueryResponse) → IsRangedResponse r → (p : ℕ) → IsQueryResponse r (pair_list (pairs_from (λ x. x) p (response_entries r)))
response_fields r g p = record {
  keys = (refl, (refl, (refl, (refl, (refl, tt)))));
  time = within max_clock r.time (omega (arith, g.time));
  id = within 0xffff_ffff r.id (omega (arith, g.id));
  from = refl;
  flags = within 0xffff_ffff r.flags (omega (arith, g.flags));
  payload = refl;
}

pub response_spelled : Below → (r : QueryResponse) → IsRangedResponse r → length r.from < 4294967296 → length r.payload < 4294967296 → Spells (query_response r) (canonical_response r)
response_spelled below r g from payload =
    let are : AllByRecursion (IsEntry 1) (response_entries r) = (
      number_entry below 1 (codes "LTime") r.time (lit< tt) (omega (arith, g.time)),
      (
        number_entry below 1 (codes "ID") r.id (lit< tt) (omega (arith, g.id)),
        (
          text_entry below 1 (codes "From") r.from (lit< tt) from,
          (number_entry below 1 (codes "Flags") r.flags (lit< tt) (omega (arith, g.flags)), (text_entry below 1 (codes "Payload") r.payload (lit< tt) payload, tt)),
        ),
      ),
    ) in (
      pairs_from (λ x. x) 1 (response_entries r),
      subst (Packs (pairs 0 (pairs_from (λ x. x) 1 (response_entries r))) 0 0)
          (sym (regroup_five (map_head 5) (entry (codes "LTime") (uint_bytes r.time)) (entry (codes "ID") (uint_bytes r.id)) (entry (codes "From") (raw_bytes r.from)) (entry (codes "Flags") (uint_bytes r.flags)) (entry (codes "Payload") (raw_bytes r.payload))))
          (entries_are_part below 0 (response_entries r) (lit< tt) are (lit< tt) 0),
      response_fields r g 1,
    )

-- ---- lists of texts

pub texts_are_part : Below → (d : ℕ) (ts : List (List ℕ)) → d < 8 → list_any is_long ts ≡ false → length ts < 4294967296 → IsPart d (array_part text_part ts)
texts_are_part below d ts room none lt = array_is_part below d text_part (λ t. is_long t ≡ false) room (λ t e. text_is_part below (d + 1) t (short t e)) ts (none_all is_long ts none) lt

pub texts_read : (ts : List (List ℕ)) (p : ℕ) → all text (item_list (items_from text_part p ts)) ≡ Some ts
texts_read ts p = all_read text text_part (λ t. t) (λ t. Unit {0}) (λ t u q. refl) ts (all_true ts) p ∙ ap (λ us. Some us) (map_same ts)

-- ---- queries

abbrev query_entries : Query → List Entry
query_entries q =
    record { name = codes "LTime"; value = number_part q.time } ∷ record { name = codes "ID"; value = number_part q.id } ∷ record { name = codes "Addr"; value = text_part q.addr }
    ∷ record { name = codes "Port"; value = number_part q.port } ∷ record { name = codes "SourceNode"; value = text_part q.source } ∷ record { name = codes "Filters"; value = array_part text_part q.filters }
    ∷ record { name = codes "Flags"; value = number_part q.flags } ∷ record { name = codes "RelayFactor"; value = number_part q.relay_factor } ∷ record { name = codes "Timeout"; value = int_part q.timeout }
    ∷ record { name = codes "Name"; value = text_part q.name } ∷ record { name = codes "Payload"; value = text_part q.payload } ∷ []

regroup_eleven : (h a b c d e f g i j k l : List ℕ) → ((((((((((h ++ a) ++ b) ++ c) ++ d) ++ e) ++ f) ++ g) ++ i) ++ j) ++ k) ++ l ≡ h ++ (a ++ (b ++ (c ++ (d ++ (e ++ (f ++ (g ++ (i ++ (j ++ (k ++ (l ++ [])))))))))))
regroup_eleven h a b c d e f g i j k l = simp (append_assoc, append-nil)

query_fields : (q : Query) → IsRangedQuery q → (p : ℕ) → IsQuery q (pair_list (pairs_from (λ x. x) p (query_entries q)))
query_fields q g p = record {
  keys = (refl, (refl, (refl, (refl, (refl, (refl, (refl, (refl, (refl, (refl, (refl, tt)))))))))));
  time = within 18446744073709551614 q.time (omega (arith, g.time));
  id = within 0xffff_ffff q.id (omega (arith, g.id));
  addr = refl;
  port = within 0xffff q.port (omega (arith, g.port));
  source = refl;
  filters = texts_read q.filters _;
  flags = within 0xffff_ffff q.flags (omega (arith, g.flags));
  relay_factor = within 0xff q.relay_factor (omega (arith, g.relay_factor));
  timeout = g.timeout;
  name = refl;
  payload = refl;
}

query_are : Below → (q : Query) → IsRangedQuery q → has_long (query q) ≡ false → AllByRecursion (IsEntry 1) (query_entries q)
query_are below q g none =
    let s = short_query q none in (
      number_entry below 1 (codes "LTime") q.time (lit< tt) (omega (arith, g.time)),
      (
        number_entry below 1 (codes "ID") q.id (lit< tt) (omega (arith, g.id)),
        (
          text_entry below 1 (codes "Addr") q.addr (lit< tt) s.addr,
          (
            number_entry below 1 (codes "Port") q.port (lit< tt) (omega (arith, g.port)),
            (
              text_entry below 1 (codes "SourceNode") q.source (lit< tt) s.source,
              (
                record { short = lit< tt; is = texts_are_part below 1 q.filters (lit< tt) s.each s.filters },
                (
                  number_entry below 1 (codes "Flags") q.flags (lit< tt) (omega (arith, g.flags)),
                  (
                    number_entry below 1 (codes "RelayFactor") q.relay_factor (lit< tt) (omega (arith, g.relay_factor)),
                    (
                      record { short = lit< tt; is = int_is_part below 1 q.timeout g.timeout },
                      (text_entry below 1 (codes "Name") q.name (lit< tt) s.name, (text_entry below 1 (codes "Payload") q.payload (lit< tt) s.payload, tt)),
                    ),
                  ),
                ),
              ),
            ),
          ),
        ),
      ),
    )

query_regrouped : (q : Query) → (entries_part (query_entries q)).bytes ≡ map_head 11 ++ entry (codes "LTime") (uint_bytes q.time) ++ entry (codes "ID") (uint_bytes q.id) ++ entry (codes "Addr") (raw_bytes q.addr)
    ++ entry (codes "Port") (uint_bytes q.port) ++ entry (codes "SourceNode") (raw_bytes q.source) ++ entry (codes "Filters") (list_bytes raw_bytes q.filters)
    ++ entry (codes "Flags") (uint_bytes q.flags) ++ entry (codes "RelayFactor") (uint_bytes q.relay_factor) ++ entry (codes "Timeout") (int_bytes q.timeout)
    ++ entry (codes "Name") (raw_bytes q.name) ++ entry (codes "Payload") (raw_bytes q.payload)
query_regrouped q =
    sym (regroup_eleven (map_head 11) (entry (codes "LTime") (uint_bytes q.time)) (entry (codes "ID") (uint_bytes q.id)) (entry (codes "Addr") (raw_bytes q.addr)) (entry (codes "Port") (uint_bytes q.port)) (entry (codes "SourceNode") (raw_bytes q.source)) (entry (codes "Filters") (list_bytes raw_bytes q.filters))
    (entry (codes "Flags") (uint_bytes q.flags)) (entry (codes "RelayFactor") (uint_bytes q.relay_factor)) (entry (codes "Timeout") (int_bytes q.timeout)) (entry (codes "Name") (raw_bytes q.name)) (entry (codes "Payload") (raw_bytes q.payload)))

pub query_spelled : Below → (q : Query) → IsRangedQuery q → has_long (query q) ≡ false → Spells (query q) (canonical_query q)
query_spelled below q g none = (
  pairs_from (λ x. x) 1 (query_entries q),
  subst (Packs (pairs 0 (pairs_from (λ x. x) 1 (query_entries q))) 0 0) (query_regrouped q) (entries_are_part below 0 (query_entries q) (lit< tt) (query_are below q g none) (lit< tt) 0),
  query_fields q g 1,
)

-- ---- slots

both_are : {A B C : Type 0} (make : A → B → C) (o : Option A) (p : Option B) (a : A) (b : B) → o ≡ Some a → p ≡ Some b → both make o p ≡ Some (make a b)
both_are make o p a b e f = rw (e, f) refl

abbrev text_entries : EventBody → List Entry
text_entries e = record { name = codes "Name"; value = text_part e.name } ∷ record { name = codes "Payload"; value = text_part e.payload } ∷ []

pub regroup_two : (h a b : List ℕ) → (h ++ a) ++ b ≡ h ++ (a ++ (b ++ []))
regroup_two h a b = simp (append_assoc, append-nil)

abbrev event_part : EventBody → Part
event_part e = record { bytes = event_bytes e; tree = (entries_part (text_entries e)).tree }

event_is_part : Below → (d : ℕ) → d < 7 → (e : EventBody) → is_long_event e ≡ false → IsPart d (event_part e)
event_is_part below d room e none = λ p.
    let s = neither _ _ none in
    subst (Packs ((entries_part (text_entries e)).tree p) d p) (sym (regroup_two (map_head 2) (entry (codes "Name") (raw_bytes e.name)) (entry (codes "Payload") (raw_bytes e.payload))))
    (entries_are_part below d (text_entries e) (omega arith) (text_entry below (d + 1) (codes "Name") e.name (lit< tt) (short _ s.0), (text_entry below (d + 1) (codes "Payload") e.payload (lit< tt) (short _ s.1), tt)) (lit< tt) p)

event_read : (e : EventBody) (p : ℕ) → event_body ((event_part e).tree p) ≡ Some e
event_read e p = refl

events_read : (es : List EventBody) (p : ℕ) → all event_body (item_list (items_from event_part p es)) ≡ Some es
events_read es p = all_read event_body event_part (λ e. e) (λ e. Unit {0}) (λ e u q. event_read e q) es (all_true es) p ∙ ap (λ us. Some us) (map_same es)

abbrev slot_entries : ℕ → List EventBody → List Entry
slot_entries t es = record { name = codes "LTime"; value = number_part t } ∷ record { name = codes "Events"; value = array_part event_part es } ∷ []

abbrev slot_tree : SlotContent → ℕ → Tree
slot_tree empty p = nil p
slot_tree (held t []) p = nil p
slot_tree (held t (e ∷ es)) p = (entries_part (slot_entries t (e ∷ es))).tree p

abbrev slot_part : SlotContent → Part
slot_part s = record { bytes = slot_bytes s; tree = slot_tree s }

slot_is_part : Below → (s : SlotContent) → (is_long_slot s ≡ false) × IsTimed s → IsPart 2 (slot_part s)
slot_is_part below empty ok = λ p. (refl, (refl, refl))
slot_is_part below (held t []) ok = λ p. (refl, (refl, refl))
slot_is_part below (held t (e ∷ es)) ok = λ p.
    let s = neither (is_long (e ∷ es)) (list_any is_long_event (e ∷ es)) ok.0 in
    let lt : t < 18446744073709551615 = ok.1 in
    subst (Packs (slot_tree (held t (e ∷ es)) p) 2 p) (sym (regroup_two (map_head 2) (entry (codes "LTime") (uint_bytes t)) (entry (codes "Events") (list_bytes event_bytes (e ∷ es)))))
    (entries_are_part below 2 (slot_entries t (e ∷ es)) (lit< tt)
    (number_entry below 3 (codes "LTime") t (lit< tt) (omega arith), (record { short = lit< tt; is = array_is_part below 3 event_part (λ x. is_long_event x ≡ false) (lit< tt) (λ x none. event_is_part below 4 (lit< tt) x none) (e ∷ es) (none_all is_long_event (e ∷ es) s.1) (short (e ∷ es) s.0) }, tt)) (lit< tt) p)

slot_read : (s : SlotContent) → IsTimed s → (p : ℕ) → slot (slot_tree s p) ≡ Some (without_events s)
slot_read empty ok p = refl
slot_read (held t []) ok p = refl
slot_read (held t (e ∷ es)) ok p = both_are held _ _ t (e ∷ es) (within 18446744073709551614 t (omega (arith, ok))) (events_read (e ∷ es) _)

-- ---- push/pulls

abbrev status_entry : List ℕ × ℕ → Entry
status_entry p = record { name = p.0; value = number_part p.1 }

status_is_part : Below → (ps : List (List ℕ × ℕ)) → AllByRecursion (λ p. p.1 < 18446744073709551616) ps → list_any (λ p. is_long p.0) ps ≡ false → length ps < 4294967296 → IsPart 1 (map_part status_entry ps)
status_is_part below ps times none lt =
    map_is_part below 1 status_entry (λ p. (is_long p.0 ≡ false) × (p.1 < 18446744073709551616)) (lit< tt) (λ p ok. number_entry below 2 p.0 p.1 (short p.0 ok.0) ok.1) ps
    (both_all _ _ ps (none_all (λ p. is_long p.0) ps none) times) lt

status_read : (ps : List (List ℕ × ℕ)) → AllByRecursion (λ p. p.1 < 18446744073709551616) ps → (q : ℕ) → all status_time (pair_list (pairs_from status_entry q ps)) ≡ Some ps
status_read [] times q = refl
status_read (p ∷ ps) times q =
    rw (within max_clock p.1 (omega (arith, times.0)), status_read ps times.1 (q + length (raw_bytes p.0) + length (uint_bytes p.1))) refl

abbrev push_pull_entries : PushPull → List Entry
push_pull_entries m =
    record { name = codes "LTime"; value = number_part m.member_clock } ∷ record { name = codes "StatusLTimes"; value = map_part status_entry m.status } ∷ record { name = codes "LeftMembers"; value = array_part text_part m.left }
    ∷ record { name = codes "EventLTime"; value = number_part m.event_clock } ∷ record { name = codes "Events"; value = array_part slot_part m.slots } ∷ record { name = codes "QueryLTime"; value = number_part m.query_clock } ∷ []

regroup_six : (h a b c d e f : List ℕ) → (((((h ++ a) ++ b) ++ c) ++ d) ++ e) ++ f ≡ h ++ (a ++ (b ++ (c ++ (d ++ (e ++ (f ++ []))))))
regroup_six h a b c d e f = simp (append_assoc, append-nil)

push_pull_fields : (m : PushPull) → IsRangedPushPull m → (p : ℕ) → IsPushPull (record m { slots = map without_events m.slots }) (pair_list (pairs_from (λ x. x) p (push_pull_entries m)))
push_pull_fields m g p = record {
  keys = (refl, (refl, (refl, (refl, (refl, (refl, tt))))));
  member_clock = within max_clock m.member_clock (omega (arith, g.member_clock));
  status = status_read m.status g.status _;
  left = texts_read m.left _;
  event_clock = within max_clock m.event_clock (omega (arith, g.event_clock));
  slots = all_read slot slot_part without_events IsTimed slot_read m.slots g.slots _;
  query_clock = within max_clock m.query_clock (omega (arith, g.query_clock));
}

record IsShortPushPull (m : PushPull) : Type 0 where
  status : length m.status < 4294967296
  names : list_any (λ p. is_long p.0) m.status ≡ false
  left : length m.left < 4294967296
  each : list_any is_long m.left ≡ false
  slots : length m.slots < 4294967296
  contents : list_any is_long_slot m.slots ≡ false

short_push_pull : (m : PushPull) → has_long (push_pull m) ≡ false → IsShortPushPull m
unfolding has_long
short_push_pull m none =
    let f5 = neither _ _ none in
    let f4 = neither _ _ f5.0 in
    let f3 = neither _ _ f4.0 in
    let f2 = neither _ _ f3.0 in
    let f1 = neither _ _ f2.0 in
    record { status = short _ f1.0; names = f1.1; left = short _ f2.1; each = f3.1; slots = short _ f4.1; contents = f5.1 }

push_pull_are : Below → (m : PushPull) → IsRangedPushPull m → has_long (push_pull m) ≡ false → AllByRecursion (IsEntry 1) (push_pull_entries m)
push_pull_are below m g none =
    let s = short_push_pull m none in (
      number_entry below 1 (codes "LTime") m.member_clock (lit< tt) (omega (arith, g.member_clock)),
      (
        record { short = lit< tt; is = status_is_part below m.status g.status s.names s.status },
        (
          record { short = lit< tt; is = texts_are_part below 1 m.left (lit< tt) s.each s.left },
          (
            number_entry below 1 (codes "EventLTime") m.event_clock (lit< tt) (omega (arith, g.event_clock)),
            (
              record { short = lit< tt; is = array_is_part below 1 slot_part (λ x. (is_long_slot x ≡ false) × IsTimed x) (lit< tt) (slot_is_part below) m.slots (both_all _ _ m.slots (none_all is_long_slot m.slots s.contents) g.slots) s.slots },
              (number_entry below 1 (codes "QueryLTime") m.query_clock (lit< tt) (omega (arith, g.query_clock)), tt),
            ),
          ),
        ),
      ),
    )

push_pull_regrouped : (m : PushPull) → (entries_part (push_pull_entries m)).bytes ≡ map_head 6 ++ entry (codes "LTime") (uint_bytes m.member_clock) ++ entry (codes "StatusLTimes") (status_bytes m.status)
    ++ entry (codes "LeftMembers") (list_bytes raw_bytes m.left) ++ entry (codes "EventLTime") (uint_bytes m.event_clock) ++ entry (codes "Events") (list_bytes slot_bytes m.slots)
    ++ entry (codes "QueryLTime") (uint_bytes m.query_clock)
push_pull_regrouped m =
    sym (regroup_six (map_head 6) (entry (codes "LTime") (uint_bytes m.member_clock)) (entry (codes "StatusLTimes") (status_bytes m.status)) (entry (codes "LeftMembers") (list_bytes raw_bytes m.left)) (entry (codes "EventLTime") (uint_bytes m.event_clock))
    (entry (codes "Events") (list_bytes slot_bytes m.slots)) (entry (codes "QueryLTime") (uint_bytes m.query_clock)))

pub push_pull_spelled : Below → (m : PushPull) → IsRangedPushPull m → has_long (push_pull m) ≡ false → Spells (without_empty_slots (push_pull m)) (canonical_push_pull m)
push_pull_spelled below m g none = (
  pairs_from (λ x. x) 1 (push_pull_entries m),
  subst (Packs (pairs 0 (pairs_from (λ x. x) 1 (push_pull_entries m))) 0 0) (push_pull_regrouped m) (entries_are_part below 0 (push_pull_entries m) (lit< tt) (push_pull_are below m g none) (lit< tt) 0),
  push_pull_fields m g 1,
)

-- ---- the law

short_texts : (a b : List ℕ) → (is_long a || is_long b) ≡ false → (length a < 4294967296) × (length b < 4294967296)
short_texts a b none = let s = neither (is_long a) (is_long b) none in (short a s.0, short b s.1)

pub canonical_spells : Below → (m : Message) → InRange m → has_long m ≡ false → Spells (without_empty_slots m) (canonical m)
unfolding canonical has_long
canonical_spells below (user_event e) g none = let s = short_texts e.name e.payload none in event_spelled below e g s.0 s.1
canonical_spells below (query q) g none = query_spelled below q g none
canonical_spells below (query_response r) g none = let s = short_texts r.from r.payload none in response_spelled below r g s.0 s.1
canonical_spells below (push_pull m) g none = push_pull_spelled below m g none
canonical_spells below (foreign k) g none = subst (λ class. SpellsAfter class k (foreign k) []) (sym g) refl

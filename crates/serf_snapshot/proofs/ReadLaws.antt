-- What is read from a text can be written again.
use Rattle.serf_snapshot.proofs.Names.{Bool, IfSome, List, None, Option, Some, [], arith, cond, false, min, not, refl, true, ℕ, ◌&&◌, ◌+◌, ◌-◌, ◌<◌, ◌==◌, ◌^◌, ◌∷◌, ◌≡◌, ◌≤◌, and_parts, eqb-false, ltb-true, All-append, All-cons, All-nil, All, slice_split, Err, Ok, Result, codes, nat_lt, result_ok, all_ascii_digits, decode_of-ok, IsBytes, decode_of, FromHexError, following, is_empty, is_time_text, lines_of, prefix_of, read_on, time_text_value, above_unkept, begins_with_zero, bytes_of_hex, event_after, event_from, event_from_parts, event_of_line, events_in, id_of, if_wanted, is_event_wanted, is_query_wanted, min_in, min_of_lines, min_prefix, min_text_value, queries_in, query_after, query_from, query_from_parts, query_of_line, said_by_lines, TimedEvent, KeptQuery, EntryFilter, ClockKind}
use Rattle.serf_snapshot.proofs.ClockLaws.{value-below}

-- ---- what is read from one line

bytes-read : (digits : List ℕ) → IfSome (bytes_of_hex digits) IsBytes
bytes-read digits = by (decode_of digits) refl
  where
    by : (r : Result (List ℕ) FromHexError) → decode_of digits ≡ r → IfSome (result_ok r) IsBytes
    by (Ok bytes) is = (decode_of-ok digits bytes is).3
    by (Err error) is = tt

abbrev pub IsEvent : TimedEvent → Type 0
IsEvent e = (0 < e.time) × (e.time < 2 ^ 64 - 1) × IsBytes e.name × IsBytes e.payload

event-from : (time : ℕ) (name payload : Option (List ℕ)) → time < 2 ^ 64 - 1 → IfSome name IsBytes → IfSome payload IsBytes → IfSome (event_from time name payload) IsEvent
event-from time None payload small n p = tt
event-from time (Some name) None small n p = tt
event-from time (Some name) (Some payload) small n p = by (time == 0) refl
  where
    by : (b : Bool) → (time == 0) ≡ b → IfSome (cond b None (Some (record { time = time; name = name; payload = payload }))) IsEvent
    by true is = tt
    by false is = let some = eqb-false time 0 is in (omega (arith, some), small, n, p)

event-parts : (parts : List (List ℕ)) → IfSome (event_from_parts parts) IsEvent
event-parts [] = tt
event-parts (time ∷ []) = tt
event-parts (time ∷ name ∷ []) = tt
event-parts (time ∷ name ∷ payload ∷ []) = event-from (time_text_value (Some time)) (bytes_of_hex name) (bytes_of_hex payload) (value-below (Some time)) (bytes-read name) (bytes-read payload)
event-parts (time ∷ name ∷ payload ∷ more ∷ rest) = tt

pub event-following : (o : Option (List ℕ)) → IfSome (event_after o) IsEvent
event-following None = tt
event-following (Some text) = event-parts (slice_split (λ b. b == 32) text)

abbrev IsQuery : KeptQuery → Type 0
IsQuery q = (0 < q.time) × (q.time < 2 ^ 64 - 1) × (q.id < 2 ^ 32)

id-read : (digits : List ℕ) → IfSome (id_of digits) (λ id. id < 2 ^ 32)
id-read digits = by (not (is_empty digits) && (all_ascii_digits digits && nat_lt (read_on 0 digits) (2 ^ 32))) refl
  where
    by : (b : Bool) → (not (is_empty digits) && (all_ascii_digits digits && nat_lt (read_on 0 digits) (2 ^ 32))) ≡ b → IfSome (cond b (Some (read_on 0 digits)) None) (λ id. id < 2 ^ 32)
    by true is = ltb-true (read_on 0 digits) (2 ^ 32) (and_parts _ _ (and_parts _ _ is).1).1
    by false is = tt

query-from : (time : ℕ) (id : Option ℕ) → time < 2 ^ 64 - 1 → IfSome id (λ n. n < 2 ^ 32) → IfSome (query_from time id) IsQuery
query-from time None small low = tt
query-from time (Some id) small low = by (time == 0) refl
  where
    by : (b : Bool) → (time == 0) ≡ b → IfSome (cond b None (Some (record { time = time; id = id }))) IsQuery
    by true is = tt
    by false is = let some = eqb-false time 0 is in (omega (arith, some), small, low)

query-parts : (parts : List (List ℕ)) → IfSome (query_from_parts parts) IsQuery
query-parts [] = tt
query-parts (time ∷ []) = tt
query-parts (time ∷ id ∷ []) = query-from (time_text_value (Some time)) (id_of id) (value-below (Some time)) (id-read id)
query-parts (time ∷ id ∷ more ∷ rest) = tt

query-following : (o : Option (List ℕ)) → IfSome (query_after o) IsQuery
query-following None = tt
query-following (Some text) = query-parts (slice_split (λ b. b == 32) text)

-- ---- what is read from several lines

each-said : {T : Type 0} (P : T → Type 0) (item : List ℕ → Option T) (w : T → Bool) → ((line : List ℕ) → IfSome (item line) P) → (lines : List (List ℕ)) → All P (said_by_lines item w lines)
each-said {T} P item w each [] = All-nil P
each-said {T} P item w each (l ∷ ls) = All-append P (if_wanted w (item l)) (said_by_lines item w ls) (one (item l) (each l)) (each-said P item w each ls)
  where
    one : (o : Option T) → IfSome o P → All P (if_wanted w o)
    one None h = All-nil P
    one (Some x) h = by (w x)
      where
        by : (b : Bool) → All P (cond b (x ∷ []) [])
        by true = All-cons P x [] h (All-nil P)
        by false = All-nil P

pub events-read : (w : EntryFilter) (text : List ℕ) → All (λ e. (0 < e.time) × (e.time < 2 ^ 64 - 1) × IsBytes e.name × IsBytes e.payload) (events_in w text)
events-read w text = each-said IsEvent event_of_line (is_event_wanted w) (λ line. event-following (following (codes "#event ") line)) (lines_of text)

pub queries-read : (w : EntryFilter) (text : List ℕ) → All (λ q. (0 < q.time) × (q.time < 2 ^ 64 - 1) × (q.id < 2 ^ 32)) (queries_in w text)
queries-read w text = each-said IsQuery query_of_line (is_query_wanted w) (λ line. query-following (following (codes "#query ") line)) (lines_of text)

-- ---- minimums

told-bounded : (o : Option (List ℕ)) → min_text_value o ≤ 2 ^ 64 - 1
told-bounded None = omega arith
told-bounded (Some digits) = by (not (is_empty digits) && all_ascii_digits digits)
  where
    by : (b : Bool) → cond b (min (read_on 0 digits) (2 ^ 64 - 1)) 0 ≤ 2 ^ 64 - 1
    by true = omega arith
    by false = omega arith

above-bounded : (o : Option (List ℕ)) → above_unkept o ≤ 2 ^ 64 - 1
above-bounded None = omega arith
above-bounded (Some digits) = by (begins_with_zero digits) (is_time_text digits) refl
  where
    by : (z t : Bool) → is_time_text digits ≡ t → cond z 0 (cond t (read_on 0 digits + 1) 0) ≤ 2 ^ 64 - 1
    by true t is = omega arith
    by false false is = omega arith
    by false true is = let small : read_on 0 digits < 2 ^ 64 - 1 = ltb-true (read_on 0 digits) (2 ^ 64 - 1) (and_parts (all_ascii_digits digits) (nat_lt (read_on 0 digits) (2 ^ 64 - 1)) (and_parts (not (is_empty digits)) (all_ascii_digits digits && nat_lt (read_on 0 digits) (2 ^ 64 - 1)) is).1).1 in omega arith

lines-bounded : (k : ClockKind) (lines : List (List ℕ)) → (1 ≤ min_of_lines k lines) × (min_of_lines k lines ≤ 2 ^ 64 - 1)
lines-bounded k [] = (omega arith, omega arith)
lines-bounded k (l ∷ ls) =
    let rest = lines-bounded k ls in
    let a = told-bounded (following (min_prefix k) l) in
    let b = above-bounded (following (prefix_of k) l) in
    (omega (arith, rest.0), omega (arith, rest.1, a, b))

pub lowest-read : (k : ClockKind) (text : List ℕ) → (1 ≤ min_in k text) × (min_in k text ≤ 2 ^ 64 - 1)
lowest-read k text = lines-bounded k (lines_of text)

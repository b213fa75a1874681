-- The lines of events and of queries: what is written reads back, and a torn line reads as nothing.
use Rattle.serf_snapshot.proofs.Names.{Bool, List, None, Option, Some, [], ap, append_assoc, arith, cond, eqb, false, inl, inr, length, nat_le, not, refl, sym, take, true, zero, ℕ, ◌&&◌, ◌*◌, ◌++◌, ◌+◌, ◌-◌, ◌/◌, ◌<◌, ◌==◌, ◌^◌, ◌∙◌, ◌∷◌, ◌≡◌, ◌≢◌, ◌≤◌, and_from, and_left, and_parts, and_right, cases_lt, cond-false, cond-true, le-leb, leb-true, lt-ltb, ne_eqb, not-true, decimal_nonempty, digits_decimal, digits_value-decimal, length-decimal-le, get_or_past, length-append, All-cons, All-head, All-nil, All-tail, slice_split_at, slice_split_none, is_ascii_digit, digit_glyph, digits_onto, digits, All, AllPass, onto_first, slice_split, Err, Ok, Result, decimal, slice_index, ◌%◌, result_ok, all_ascii_digits, IsDigits-lower_digits, decode_of-encode_lower, decode_of-ok, length-encode_with, IsBytes, decode_of, encode_lower, hex_digit_value, is_hex_digit, lower_digits, encode_with, FromHexError, following, largest, is_empty, is_whole, last_clock, line_value, lines_of, onto_line, read_on, sealed, time_text_value, bytes_of_hex, event_after, event_from, event_from_parts, event_line, event_of_line, event_text, events_in, events_of_lines, id_of, if_event_wanted, if_query_wanted, kept_query, queries_in, queries_of_lines, query_after, query_from, query_from_parts, query_line, query_of_line, query_text, TimedEvent, timed_event, KeptQuery, EntryFilter, ClockKind, Event, Member, Query}
use Rattle.std.proofs.Common.{suc}
use Rattle.serf_snapshot.proofs.ClockLaws.{digits_end, largest-append, has_no_newline, lines_of-append, own, time_text_value-decimal}
use Rattle.serf_snapshot.proofs.SayLaws.{has_no_hash, hash_after-sealed, lines-inside, lines-torn, no_newline-append, say-grows, say-line, say-sealed}

-- ---- parts without a space or a newline

abbrev pub has_no_blank : List ℕ → Bool
has_no_blank [] = true
has_no_blank (b ∷ bs) = (not (b == 10) && not (b == 32)) && has_no_blank bs

no_newline-blank : (a : List ℕ) → has_no_blank a ≡ true → has_no_newline a ≡ true
no_newline-blank [] h = refl
no_newline-blank (b ∷ a) h =
    let p = and_parts (not (eqb b 10) && not (eqb b 32)) (has_no_blank a) h in
    let q = and_parts (not (eqb b 10)) (not (eqb b 32)) p.0 in
    and_from _ _ q.0 (no_newline-blank a p.1)

pub no_space-blank : (a : List ℕ) → has_no_blank a ≡ true → All (λ (b : ℕ). (b == 32) ≡ false) a
no_space-blank [] h = All-nil (λ (b : ℕ). (b == 32) ≡ false)
no_space-blank (b ∷ a) h =
    let p = and_parts (not (eqb b 10) && not (eqb b 32)) (has_no_blank a) h in
    let q = and_parts (not (eqb b 10)) (not (eqb b 32)) p.0 in
    All-cons (λ (b : ℕ). (b == 32) ≡ false) b a (not-true (eqb b 32) q.1) (no_space-blank a p.1)

digits_no_blank : (ds : List ℕ) → all_ascii_digits ds ≡ true → has_no_blank ds ≡ true
digits_no_blank [] h = refl
digits_no_blank (d ∷ ds) h =
    let p = and_parts (is_ascii_digit d) (all_ascii_digits ds) h in
    let range = and_parts (nat_le 48 d) (nat_le d 57) p.0 in
    let low : 48 ≤ d = leb-true 48 d range.0 in
    let a : d ≢ 10 = omega arith in
    let b : d ≢ 32 = omega arith in
    and_from _ _ (and_from _ _ (ap not (ne_eqb d 10 a)) (ap not (ne_eqb d 32 b))) (digits_no_blank ds p.1)

-- the characters that write a number are digits, even if there are more than 64 of them
glyph_digit : (n : ℕ) → is_ascii_digit (digit_glyph false (n % 10)) ≡ true
glyph_digit n = by (n % 10) (omega arith)
  where
    by : (d : ℕ) → d < 10 → is_ascii_digit (digit_glyph false d) ≡ true
    by d low = rw (lt-ltb d 10 low) (and_from (nat_le 48 (48 + d)) (nat_le (48 + d) 57) (le-leb 48 (48 + d) (omega arith)) (le-leb (48 + d) 57 (omega arith)))

either_digits : (b : Bool) (xs ys : List ℕ) → all_ascii_digits xs ≡ true → all_ascii_digits ys ≡ true → all_ascii_digits (cond b xs ys) ≡ true
either_digits true xs ys hx hy = hx
either_digits false xs ys hx hy = hy

onto_digits : (k n : ℕ) (acc : List ℕ) → all_ascii_digits acc ≡ true → all_ascii_digits (digits_onto k 10 false n acc) ≡ true
onto_digits zero n acc h = h
onto_digits (suc k) n acc h =
    let more : all_ascii_digits (digit_glyph false (n % 10) ∷ acc) ≡ true = and_from _ _ (glyph_digit n) h in
    either_digits (n / 10 == 0) (digit_glyph false (n % 10) ∷ acc) (digits_onto k 10 false (n / 10) (digit_glyph false (n % 10) ∷ acc)) more (onto_digits k (n / 10) (digit_glyph false (n % 10) ∷ acc) more)

decimal_digits : (n : ℕ) → all_ascii_digits (decimal n) ≡ true
unfolding digits
decimal_digits n = onto_digits 64 n [] refl

pub decimal_no_blank : (n : ℕ) → has_no_blank (decimal n) ≡ true
decimal_no_blank n = digits_no_blank (decimal n) (decimal_digits n)

hex_digit_other : (d s : ℕ) → 0 < s → hex_digit_value s ≡ None → not (slice_index lower_digits d == s) ≡ true
hex_digit_other d s some none = elim (cases_lt d 16) [
  | inl low ↦
      let reads : hex_digit_value (slice_index lower_digits d) ≡ Some d = IsDigits-lower_digits d low in
      let far : slice_index lower_digits d ≢ s = λ e. (let no : Some d ≡ None = sym reads ∙ ap hex_digit_value e ∙ none in cc) in
      ap not (ne_eqb (slice_index lower_digits d) s far)
  | inr high ↦
      let past : slice_index lower_digits d ≡ 0 = get_or_past lower_digits d 0 high in
      let far : slice_index lower_digits d ≢ s = omega arith in
      ap not (ne_eqb (slice_index lower_digits d) s far)
]

hex_no_blank : (xs : List ℕ) → has_no_blank (encode_lower xs) ≡ true
unfolding encode_with
hex_no_blank [] = refl
hex_no_blank (b ∷ rest) =
    let newline : 0 < 10 = omega arith in
    let space : 0 < 32 = omega arith in
    and_from _ _ (and_from _ _ (hex_digit_other (b / 16) 10 newline refl) (hex_digit_other (b / 16) 32 space refl))
    (and_from _ _ (and_from _ _ (hex_digit_other (b % 16) 10 newline refl) (hex_digit_other (b % 16) 32 space refl)) (hex_no_blank rest))

pub no_newline-decimal : (n : ℕ) → has_no_newline (decimal n) ≡ true
no_newline-decimal n = no_newline-blank (decimal n) (decimal_no_blank n)

pub no_newline-event : (t : ℕ) (name payload : List ℕ) → has_no_newline (event_text t name payload) ≡ true
no_newline-event t name payload =
    no_newline-append (decimal t ++ 32 ∷ encode_lower name) (32 ∷ encode_lower payload)
    (no_newline-append (decimal t) (32 ∷ encode_lower name) (no_newline-blank (decimal t) (decimal_no_blank t)) (no_newline-blank (encode_lower name) (hex_no_blank name)))
    (no_newline-blank (encode_lower payload) (hex_no_blank payload))

pub no_newline-query : (t id : ℕ) → has_no_newline (query_text t id) ≡ true
no_newline-query t id =
    no_newline-append (decimal t) (32 ∷ decimal id) (no_newline-blank (decimal t) (decimal_no_blank t)) (no_newline-blank (decimal id) (decimal_no_blank id))

-- ---- what is written reads back

pub event_of_line-written : (t : ℕ) (name payload : List ℕ) → 0 < t → t < 2 ^ 64 - 1 → IsBytes name → IsBytes payload → event_of_line (event_text t name payload) ≡ Some (timed_event t name payload)
event_of_line-written t name payload some small n p =
    let low : t < 2 ^ 64 = omega arith in
    let is_space = λ (b : ℕ). b == 32 in
    let last : slice_split (λ b. b == 32) (encode_lower payload) ≡ encode_lower payload ∷ [] = slice_split_none is_space (encode_lower payload) (no_space-blank (encode_lower payload) (hex_no_blank payload)) in
    let middle : slice_split (λ b. b == 32) (encode_lower name ++ 32 ∷ encode_lower payload) ≡ encode_lower name ∷ slice_split (λ b. b == 32) (encode_lower payload) =
    slice_split_at is_space (encode_lower name) 32 (encode_lower payload) (no_space-blank (encode_lower name) (hex_no_blank name)) refl in
    let first : slice_split (λ b. b == 32) (decimal t ++ 32 ∷ (encode_lower name ++ 32 ∷ encode_lower payload)) ≡ decimal t ∷ slice_split (λ b. b == 32) (encode_lower name ++ 32 ∷ encode_lower payload) =
    slice_split_at is_space (decimal t) 32 (encode_lower name ++ 32 ∷ encode_lower payload) (no_space-blank (decimal t) (decimal_no_blank t)) refl in
    let parts : slice_split (λ b. b == 32) (decimal t ++ 32 ∷ (encode_lower name ++ 32 ∷ encode_lower payload)) ≡ decimal t ∷ encode_lower name ∷ encode_lower payload ∷ [] =
    first ∙ ap (λ (l : List (List ℕ)). decimal t ∷ l) (middle ∙ ap (λ (l : List (List ℕ)). encode_lower name ∷ l) last) in
    let reads_name : bytes_of_hex (encode_lower name) ≡ Some name = ap result_ok (decode_of-encode_lower name n) in
    let reads_payload : bytes_of_hex (encode_lower payload) ≡ Some payload = ap result_ok (decode_of-encode_lower payload p) in
    let not_zero : t ≢ 0 = omega arith in
    ap (λ (l : List ℕ). event_from_parts (slice_split (λ b. b == 32) l)) (append_assoc (decimal t) (32 ∷ encode_lower name) (32 ∷ encode_lower payload))
    ∙ ap event_from_parts parts
    ∙ ap (λ (x : ℕ). event_from x (bytes_of_hex (encode_lower name)) (bytes_of_hex (encode_lower payload))) (time_text_value-decimal t small)
    ∙ ap (λ (o : Option (List ℕ)). event_from t o (bytes_of_hex (encode_lower payload))) reads_name
    ∙ ap (λ (o : Option (List ℕ)). event_from t (Some name) o) reads_payload
    ∙ cond-false (eqb t 0) _ _ (ne_eqb t 0 not_zero)

id_of-decimal : (id : ℕ) → id < 2 ^ 32 → id_of (decimal id) ≡ Some id
id_of-decimal id low =
    let small : id < 2 ^ 64 = omega arith in
    let value = digits_value-decimal own id small in
    let below : read_on 0 (decimal id) < 2 ^ 32 = omega arith in
    cond-true _ _ _ (and_from _ _ (not_empty (decimal id) (decimal_nonempty id small)) (and_from _ _ (digits_decimal own id small) (lt-ltb (read_on 0 (decimal id)) (2 ^ 32) below))) ∙ ap Some value
  where
    not_empty : (ds : List ℕ) → 0 < length ds → not (is_empty ds) ≡ true
    not_empty [] l = absurd (omega arith)
    not_empty (d ∷ ds) l = refl

pub query_of_line-written : (t id : ℕ) → 0 < t → t < 2 ^ 64 - 1 → id < 2 ^ 32 → query_of_line (query_text t id) ≡ Some (kept_query t id)
query_of_line-written t id some small low =
    let t_low : t < 2 ^ 64 = omega arith in
    let id_low : id < 2 ^ 64 = omega arith in
    let is_space = λ (b : ℕ). b == 32 in
    let last : slice_split (λ b. b == 32) (decimal id) ≡ decimal id ∷ [] = slice_split_none is_space (decimal id) (no_space-blank (decimal id) (decimal_no_blank id)) in
    let parts : slice_split (λ b. b == 32) (decimal t ++ 32 ∷ decimal id) ≡ decimal t ∷ decimal id ∷ [] =
    slice_split_at is_space (decimal t) 32 (decimal id) (no_space-blank (decimal t) (decimal_no_blank t)) refl ∙ ap (λ (l : List (List ℕ)). decimal t ∷ l) last in
    let not_zero : t ≢ 0 = omega arith in
    ap query_from_parts parts
    ∙ ap (λ (x : ℕ). query_from x (id_of (decimal id))) (time_text_value-decimal t small)
    ∙ ap (λ (o : Option ℕ). query_from t o) (id_of-decimal id low)
    ∙ cond-false (eqb t 0) _ _ (ne_eqb t 0 not_zero)

-- ---- a line that a seal ended is neither an event nor a query

split-sealed : (v : List ℕ) → (ps : List (List ℕ)) × (q : List ℕ) × (slice_split (λ b. b == 32) (v ++ 35 ∷ []) ≡ ps ++ (q ++ 35 ∷ []) ∷ [])
split-sealed [] = ([], [], refl)
split-sealed (x ∷ v) = step (x == 32) (split-sealed v)
  where
    onto : (ps : List (List ℕ)) (q : List ℕ) → (rs : List (List ℕ)) × (r : List ℕ) × (onto_first x (ps ++ (q ++ 35 ∷ []) ∷ []) ≡ rs ++ (r ++ 35 ∷ []) ∷ [])
    onto [] q = ([], x ∷ q, refl)
    onto (p ∷ ps) q = ((x ∷ p) ∷ ps, q, refl)

    step : (t : Bool) → (ps : List (List ℕ)) × (q : List ℕ) × (slice_split (λ b. b == 32) (v ++ 35 ∷ []) ≡ ps ++ (q ++ 35 ∷ []) ∷ [])
        → (ps : List (List ℕ)) × (q : List ℕ) × (cond t ([] ∷ slice_split (λ b. b == 32) (v ++ 35 ∷ [])) (onto_first x (slice_split (λ b. b == 32) (v ++ 35 ∷ []))) ≡ ps ++ (q ++ 35 ∷ []) ∷ [])
    step true ih = ([] ∷ ih.0, ih.1, ap (λ (l : List (List ℕ)). [] ∷ l) ih.2)
    step false ih = let f = onto ih.0 ih.1 in (f.0, f.1, ap (onto_first x) ih.2 ∙ f.2)

hash_last : (q : List ℕ) → AllPass is_hex_digit (q ++ 35 ∷ []) → ⊥
hash_last [] h = let no : is_hex_digit 35 ≡ true = All-head (λ (c : ℕ). is_hex_digit c ≡ true) 35 [] h in cc
hash_last (x ∷ q) h = hash_last q (All-tail (λ (c : ℕ). is_hex_digit c ≡ true) x (q ++ 35 ∷ []) h)

hex_sealed : (q : List ℕ) → bytes_of_hex (q ++ 35 ∷ []) ≡ None
hex_sealed q = by (decode_of (q ++ 35 ∷ [])) refl
  where
    by : (r : Result (List ℕ) FromHexError) → decode_of (q ++ 35 ∷ []) ≡ r → result_ok (decode_of (q ++ 35 ∷ [])) ≡ None
    by (Err e) is = ap result_ok is
    by (Ok bytes) is = absurd (hash_last q (decode_of-ok (q ++ 35 ∷ []) bytes is).1)

event_from-no_payload : (t : ℕ) (name : Option (List ℕ)) → event_from t name None ≡ None
event_from-no_payload t None = refl
event_from-no_payload t (Some name) = refl

event_parts-sealed : (ps : List (List ℕ)) (q : List ℕ) → event_from_parts (ps ++ (q ++ 35 ∷ []) ∷ []) ≡ None
event_parts-sealed [] q = refl
event_parts-sealed (a ∷ []) q = refl
event_parts-sealed (a ∷ b ∷ []) q = ap (λ (o : Option (List ℕ)). event_from (time_text_value (Some a)) (bytes_of_hex b) o) (hex_sealed q) ∙ event_from-no_payload (time_text_value (Some a)) (bytes_of_hex b)
event_parts-sealed (a ∷ b ∷ c ∷ []) q = refl
event_parts-sealed (a ∷ b ∷ c ∷ d ∷ ps) q = refl

id_sealed : (q : List ℕ) → id_of (q ++ 35 ∷ []) ≡ None
id_sealed q = cond-false _ _ _ (and_right (not (is_empty (q ++ 35 ∷ []))) _ (and_left (all_ascii_digits (q ++ 35 ∷ [])) _ (digits_end q)))

query_parts-sealed : (ps : List (List ℕ)) (q : List ℕ) → query_from_parts (ps ++ (q ++ 35 ∷ []) ∷ []) ≡ None
query_parts-sealed [] q = refl
query_parts-sealed (a ∷ []) q = ap (λ (o : Option ℕ). query_from (time_text_value (Some a)) o) (id_sealed q)
query_parts-sealed (a ∷ b ∷ []) q = refl
query_parts-sealed (a ∷ b ∷ c ∷ ps) q = refl

-- the event after a prefix that begins with `#`, which is none
pub event_after-sealed : (b : ℕ) (p u : List ℕ) → has_no_hash (b ∷ p) ≡ true → event_after (following (35 ∷ b ∷ p) (u ++ 35 ∷ [])) ≡ None
event_after-sealed b p u = hash_after-sealed None event_after refl (λ v. let s = split-sealed v in ap event_from_parts s.2 ∙ event_parts-sealed s.0 s.1) b p u

pub event_of_line-sealed : (u : List ℕ) → event_of_line (u ++ 35 ∷ []) ≡ None
event_of_line-sealed u = event_after-sealed 101 (118 ∷ 101 ∷ 110 ∷ 116 ∷ 32 ∷ []) u refl

query_of_line-sealed : (u : List ℕ) → query_of_line (u ++ 35 ∷ []) ≡ None
query_of_line-sealed u = hash_after-sealed None query_after refl (λ v. let s = split-sealed v in ap query_from_parts s.2 ∙ query_parts-sealed s.0 s.1) 113 (117 ∷ 101 ∷ 114 ∷ 121 ∷ 32 ∷ []) u refl

-- ---- whole texts

pub events-line : (w : EntryFilter) (text : List ℕ) (t : ℕ) (name payload : List ℕ) → is_whole text ≡ true → 0 < t → t < 2 ^ 64 - 1 → IsBytes name → IsBytes payload
    → events_in w (text ++ event_line t name payload) ≡ events_in w text ++ if_event_wanted w (Some (timed_event t name payload))
events-line w text t name payload whole some small n p =
    say-line (λ (line : List ℕ). if_event_wanted w (event_of_line line)) text (event_text t name payload) whole (no_newline-event t name payload)
    ∙ ap (λ (o : Option TimedEvent). events_in w text ++ if_event_wanted w o) (event_of_line-written t name payload some small n p)

pub events-torn : (w : EntryFilter) (text : List ℕ) (t : ℕ) (name payload : List ℕ) (j : ℕ) → is_whole text ≡ true → t < 2 ^ 64 - 1 → j < length (event_line t name payload)
    → events_in w (text ++ take j (event_line t name payload)) ≡ events_in w text
events-torn w text t name payload j whole small within =
    ap (events_of_lines w) (lines-torn text (event_text t name payload) j whole (no_newline-event t name payload) within)

pub events-sealed : (w : EntryFilter) (text : List ℕ) → events_in w (sealed text) ≡ events_in w text
events-sealed w text = say-sealed (λ (line : List ℕ). if_event_wanted w (event_of_line line)) text (λ u. ap (if_event_wanted w) (event_of_line-sealed u))

pub events-grow : (w : EntryFilter) (front tail : List ℕ) → (more : List TimedEvent) × (events_in w (front ++ tail) ≡ events_in w front ++ more)
events-grow w front tail = say-grows (λ (line : List ℕ). if_event_wanted w (event_of_line line)) front tail

pub queries-line : (w : EntryFilter) (text : List ℕ) (t id : ℕ) → is_whole text ≡ true → 0 < t → t < 2 ^ 64 - 1 → id < 2 ^ 32
    → queries_in w (text ++ query_line t id) ≡ queries_in w text ++ if_query_wanted w (Some (kept_query t id))
queries-line w text t id whole some small low =
    say-line (λ (line : List ℕ). if_query_wanted w (query_of_line line)) text (query_text t id) whole (no_newline-query t id)
    ∙ ap (λ (o : Option KeptQuery). queries_in w text ++ if_query_wanted w o) (query_of_line-written t id some small low)

pub queries-torn : (w : EntryFilter) (text : List ℕ) (t id : ℕ) (j : ℕ) → is_whole text ≡ true → t < 2 ^ 64 - 1 → id < 2 ^ 32 → j < length (query_line t id)
    → queries_in w (text ++ take j (query_line t id)) ≡ queries_in w text
queries-torn w text t id j whole small low within =
    ap (queries_of_lines w) (lines-torn text (query_text t id) j whole (no_newline-query t id) within)

pub queries-sealed : (w : EntryFilter) (text : List ℕ) → queries_in w (sealed text) ≡ queries_in w text
queries-sealed w text = say-sealed (λ (line : List ℕ). if_query_wanted w (query_of_line line)) text (λ u. ap (if_query_wanted w) (query_of_line-sealed u))

pub queries-grow : (w : EntryFilter) (front tail : List ℕ) → (more : List KeptQuery) × (queries_in w (front ++ tail) ≡ queries_in w front ++ more)
queries-grow w front tail = say-grows (λ (line : List ℕ). if_query_wanted w (query_of_line line)) front tail

-- a line that begins with `#` has no clock
pub hash_no_clock : (k : ClockKind) (line : List ℕ) → line_value k (35 ∷ line) ≡ 0
hash_no_clock Member line = refl
hash_no_clock Event line = refl
hash_no_clock Query line = refl

-- a single line contains no newline
no_newline-one : (line : List ℕ) → lines_of (line ++ 10 ∷ []) ≡ line ∷ [] → has_no_newline line ≡ true
no_newline-one [] h = refl
no_newline-one (b ∷ bs) h = step (eqb b 10) refl h (λ one. no_newline-one bs one)
  where
    rest : (ls : List (List ℕ)) → onto_line b ls ≡ (b ∷ bs) ∷ [] → ls ≡ bs ∷ []
    rest [] e = absurd (cc e)
    rest (l ∷ ls) e = cc

    step : (t : Bool) → eqb b 10 ≡ t → cond t ([] ∷ lines_of (bs ++ 10 ∷ [])) (onto_line b (lines_of (bs ++ 10 ∷ []))) ≡ (b ∷ bs) ∷ []
        → (lines_of (bs ++ 10 ∷ []) ≡ bs ∷ [] → has_no_newline bs ≡ true) → (not (eqb b 10) && has_no_newline bs) ≡ true
    step true is e more = absurd (cc e)
    step false is e more = and_from _ _ (ap not is) (more (rest (lines_of (bs ++ 10 ∷ [])) e))

pub last_clock-skipped : (k : ClockKind) (front line back : List ℕ) → is_whole front ≡ true → lines_of (line ++ 10 ∷ []) ≡ line ∷ [] → last_clock k (front ++ (35 ∷ line ++ 10 ∷ back)) ≡ last_clock k (front ++ back)
last_clock-skipped k front line back whole one =
    let none = no_newline-one line one in
    let with_it = ap (largest k) (lines-inside front (35 ∷ line) back whole none) ∙ largest-append k (lines_of front) ((35 ∷ line) ∷ lines_of back) in
    let without = ap (largest k) (lines_of-append front back whole) ∙ largest-append k (lines_of front) (lines_of back) in
    omega (arith, with_it, without, hash_no_clock k line)

pub length-event_line : (t : ℕ) (name payload : List ℕ) → t < 2 ^ 64 - 1 → length (event_line t name payload) ≤ 2 * (length name + length payload) + 30
length-event_line t name payload small =
    let low : t < 2 ^ 64 = omega arith in
    let digits : length (decimal t) ≤ 20 = length-decimal-le 20 t (omega arith) (omega arith) low in
    let whole = length-append (event_text t name payload) (10 ∷ []) in
    let texts = length-append (decimal t ++ 32 ∷ encode_lower name) (32 ∷ encode_lower payload) in
    let front = length-append (decimal t) (32 ∷ encode_lower name) in
    omega (arith, whole, texts, front, length-encode_with lower_digits name, length-encode_with lower_digits payload)

pub length-query_line : (t id : ℕ) → t < 2 ^ 64 - 1 → id < 2 ^ 32 → length (query_line t id) ≤ 39
length-query_line t id small low =
    let digits : length (decimal t) ≤ 20 = length-decimal-le 20 t (omega arith) (omega arith) (omega arith) in
    let more : length (decimal id) ≤ 10 = length-decimal-le 10 id (omega arith) (omega arith) (omega arith) in
    let whole = length-append (query_text t id) (10 ∷ []) in
    let first = length-append (decimal t) (32 ∷ decimal id) in
    omega (arith, whole, first)

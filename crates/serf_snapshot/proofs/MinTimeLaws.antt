-- The minimums of a text, and the clock lines that belong to kept lines.
use Rattle.serf_snapshot.proofs.Names.{Bool, List, Some, [], ap, arith, cond, false, length, max, not, refl, true, ℕ, ◌++◌, ◌+◌, ◌-◌, ◌/◌, ◌<◌, ◌^◌, ◌∙◌, ◌∷◌, ◌≡◌, ◌≢◌, ◌≤◌, and_from, and_left, and_right, cond-false, cond-true, lt-ltb, ne_eqb, decimal_by_steps, decimal_nonempty, digits_decimal, digits_value-decimal, decimal, ◌%◌, all_ascii_digits, following, clock_line, largest, is_empty, is_time_text, is_whole, last_clock, line_value, lines_of, prefix_of, read_on, sealed, time_text_value, above_unkept, begins_with_zero, event_line, event_text, kept_clock_line, kept_clock_text, min_in, min_line, min_of_line, min_of_lines, min_prefix, min_text, min_text_value, query_line, query_text, ClockKind, Event, Member, Query}
use Rattle.serf_snapshot.proofs.ClockLaws.{decimal_is_time, digits_end, front_lines, largest-append, has_no_newline, lines_of-append, own, prefix_no_newline, torn_line}
use Rattle.serf_snapshot.proofs.EventLineLaws.{no_newline-decimal, no_newline-event, no_newline-query}
use Rattle.serf_snapshot.proofs.SayLaws.{following-sealed, hash_after-sealed, lines-line}

pub lowest-some : (k : ClockKind) (ls : List (List ℕ)) → 1 ≤ min_of_lines k ls
lowest-some k [] = omega arith
lowest-some k (l ∷ ls) = let ih : 1 ≤ min_of_lines k ls = lowest-some k ls in omega arith

lowest-append : (k : ClockKind) (ls ms : List (List ℕ)) → min_of_lines k (ls ++ ms) ≡ max (min_of_lines k ls) (min_of_lines k ms)
lowest-append k [] ms = let some : 1 ≤ min_of_lines k ms = lowest-some k ms in omega arith
lowest-append k (l ∷ ls) ms = omega (arith, lowest-append k ls ms)

-- how one more line changes the minimum
lowest-line : (k : ClockKind) (text l : List ℕ) (value : ℕ) → is_whole text ≡ true → has_no_newline l ≡ true → min_of_line k l ≡ value → min_in k (text ++ (l ++ 10 ∷ [])) ≡ max (min_in k text) value
lowest-line k text l value whole none is =
    let all : min_in k (text ++ (l ++ 10 ∷ [])) ≡ min_of_lines k (lines_of text ++ l ∷ []) = ap (min_of_lines k) (lines-line text l whole none) in
    let both = lowest-append k (lines_of text) (l ∷ []) in
    let some : 1 ≤ min_of_lines k (lines_of text) = lowest-some k (lines_of text) in
    omega (arith, all, both, is)

-- ---- the `#least` line

pub min_no_newline : (k : ClockKind) (t : ℕ) → has_no_newline (min_text k t) ≡ true
min_no_newline Member t = no_newline-decimal t
min_no_newline Event t = no_newline-decimal t
min_no_newline Query t = no_newline-decimal t

min_value-decimal : (t : ℕ) → t ≤ 2 ^ 64 - 1 → min_text_value (Some (decimal t)) ≡ t
min_value-decimal t small =
    let low : t < 2 ^ 64 = omega arith in
    let value = digits_value-decimal own t low in
    cond-true _ _ _ (and_from _ _ (not_empty (decimal t) (decimal_nonempty t low)) (digits_decimal own t low)) ∙ omega (arith, value)
  where
    not_empty : (ds : List ℕ) → 0 < length ds → not (is_empty ds) ≡ true
    not_empty [] l = absurd (omega arith)
    not_empty (d ∷ ds) l = refl

pub min_of_line-own : (k : ClockKind) (t : ℕ) → t ≤ 2 ^ 64 - 1 → min_of_line k (min_text k t) ≡ t
min_of_line-own Member t small = omega (arith, min_value-decimal t small)
min_of_line-own Event t small = omega (arith, min_value-decimal t small)
min_of_line-own Query t small = omega (arith, min_value-decimal t small)

min_of_line-other : (k j : ClockKind) (t : ℕ) → k ≢ j → min_of_line k (min_text j t) ≡ 0
min_of_line-other Member Member t h = absurd (h refl)
min_of_line-other Member Event t h = refl
min_of_line-other Member Query t h = refl
min_of_line-other Event Member t h = refl
min_of_line-other Event Event t h = absurd (h refl)
min_of_line-other Event Query t h = refl
min_of_line-other Query Member t h = refl
min_of_line-other Query Event t h = refl
min_of_line-other Query Query t h = absurd (h refl)

pub lowest-own : (k : ClockKind) (text : List ℕ) (t : ℕ) → is_whole text ≡ true → t ≤ 2 ^ 64 - 1 → min_in k (text ++ min_line k t) ≡ max (min_in k text) t
lowest-own k text t whole small = lowest-line k text (min_text k t) t whole (min_no_newline k t) (min_of_line-own k t small)

pub lowest-other : (k j : ClockKind) (text : List ℕ) (t : ℕ) → is_whole text ≡ true → t ≤ 2 ^ 64 - 1 → k ≢ j → min_in k (text ++ min_line j t) ≡ min_in k text
lowest-other k j text t whole small other = omega (arith, lowest-line k text (min_text j t) 0 whole (min_no_newline j t) (min_of_line-other k j t other))

-- ---- lines of events and of queries

event_says_none : (k : ClockKind) (t : ℕ) (name payload : List ℕ) → min_of_line k (event_text t name payload) ≡ 0
event_says_none Member t name payload = refl
event_says_none Event t name payload = refl
event_says_none Query t name payload = refl

query_says_none : (k : ClockKind) (t id : ℕ) → min_of_line k (query_text t id) ≡ 0
query_says_none Member t id = refl
query_says_none Event t id = refl
query_says_none Query t id = refl

pub lowest-event : (k : ClockKind) (text : List ℕ) (t : ℕ) (name payload : List ℕ) → is_whole text ≡ true → t < 2 ^ 64 - 1 → min_in k (text ++ event_line t name payload) ≡ min_in k text
lowest-event k text t name payload whole small =
    omega (arith, lowest-line k text (event_text t name payload) 0 whole (no_newline-event t name payload) (event_says_none k t name payload))

pub lowest-query : (k : ClockKind) (text : List ℕ) (t id : ℕ) → is_whole text ≡ true → t < 2 ^ 64 - 1 → id < 2 ^ 32 → min_in k (text ++ query_line t id) ≡ min_in k text
lowest-query k text t id whole small low =
    omega (arith, lowest-line k text (query_text t id) 0 whole (no_newline-query t id) (query_says_none k t id))

-- ---- clock lines

-- the first digit of a number above 0 isn't a zero
StartsAboveZero : ℕ → List ℕ → Type 0
StartsAboveZero n ds = 0 < n → (begins_with_zero ds ≡ false) × (is_empty ds ≡ false)

decimal_starts : (n : ℕ) → n < 2 ^ 64 → StartsAboveZero n (decimal n)
unfolding StartsAboveZero
decimal_starts n small = decimal_by_steps StartsAboveZero one more n small
  where
    one : (n : ℕ) → n < 10 → 0 < n → (begins_with_zero ((48 + n) ∷ []) ≡ false) × (is_empty ((48 + n) ∷ []) ≡ false)
    one n low some = let far : 48 + n ≢ 48 = omega arith in (ne_eqb (48 + n) 48 far, refl)

    same : (ds : List ℕ) (d : ℕ) → (begins_with_zero ds ≡ false) × (is_empty ds ≡ false) → (begins_with_zero (ds ++ d ∷ []) ≡ false) × (is_empty (ds ++ d ∷ []) ≡ false)
    same [] d h = absurd (cc h.1)
    same (x ∷ ds) d h = h

    more : (n : ℕ) (ds : List ℕ) → 10 ≤ n → StartsAboveZero (n / 10) ds → StartsAboveZero n (ds ++ ((48 + n % 10) ∷ []))
    more n ds high ih some = let left : 0 < n / 10 = omega arith in same ds (48 + n % 10) (ih left)

above-decimal : (t : ℕ) → 0 < t → t < 2 ^ 64 - 1 → above_unkept (Some (decimal t)) ≡ t + 1
unfolding StartsAboveZero
above-decimal t some small =
    let low : t < 2 ^ 64 = omega arith in
    cond-false _ _ _ (decimal_starts t low some).0
    ∙ cond-true _ _ _ (decimal_is_time t small)
    ∙ ap (λ n. n + 1) (digits_value-decimal own t low)

clock_says : (k : ClockKind) (t : ℕ) → 0 < t → t < 2 ^ 64 - 1 → min_of_line k (prefix_of k ++ decimal t) ≡ t + 1
clock_says Member t some small = omega (arith, above-decimal t some small)
clock_says Event t some small = omega (arith, above-decimal t some small)
clock_says Query t some small = omega (arith, above-decimal t some small)

pub lowest-clock_line : (k : ClockKind) (text : List ℕ) (t : ℕ) → is_whole text ≡ true → 0 < t → t < 2 ^ 64 - 1 → min_in k (text ++ clock_line k t) ≡ max (min_in k text) (t + 1)
lowest-clock_line k text t whole some small =
    ap (λ (l : List ℕ). min_in k (text ++ l)) (assoc k)
    ∙ lowest-line k text (prefix_of k ++ decimal t) (t + 1) whole (prefix_no_newline k (decimal t) (no_newline-decimal t)) (clock_says k t some small)
  where
    assoc : (k : ClockKind) → clock_line k t ≡ (prefix_of k ++ decimal t) ++ 10 ∷ []
    assoc Member = refl
    assoc Event = refl
    assoc Query = refl

other_clock_says : (k j : ClockKind) (t : ℕ) → k ≢ j → min_of_line k (prefix_of j ++ decimal t) ≡ 0
other_clock_says Member Member t other = absurd (other refl)
other_clock_says Member Event t other = refl
other_clock_says Member Query t other = refl
other_clock_says Event Member t other = refl
other_clock_says Event Event t other = absurd (other refl)
other_clock_says Event Query t other = refl
other_clock_says Query Member t other = refl
other_clock_says Query Event t other = refl
other_clock_says Query Query t other = absurd (other refl)

pub lowest-other_clock_line : (k j : ClockKind) (text : List ℕ) (t : ℕ) → is_whole text ≡ true → k ≢ j → min_in k (text ++ clock_line j t) ≡ min_in k text
lowest-other_clock_line k j text t whole other = ap (λ (l : List ℕ). min_in k (text ++ l)) (assoc j) ∙ omega (arith, lowest-line k text (prefix_of j ++ decimal t) 0 whole (prefix_no_newline j (decimal t) (no_newline-decimal t)) (other_clock_says k j t other))
  where
    assoc : (k : ClockKind) → clock_line k t ≡ (prefix_of k ++ decimal t) ++ 10 ∷ []
    assoc Member = refl
    assoc Event = refl
    assoc Query = refl

pub kept_no_newline : (k : ClockKind) (t : ℕ) → has_no_newline (kept_clock_text k t) ≡ true
kept_no_newline Member t = no_newline-decimal t
kept_no_newline Event t = no_newline-decimal t
kept_no_newline Query t = no_newline-decimal t

kept_says_none : (k j : ClockKind) (t : ℕ) → min_of_line k (kept_clock_text j t) ≡ 0
kept_says_none Member Member t = refl
kept_says_none Member Event t = refl
kept_says_none Member Query t = refl
kept_says_none Event Member t = refl
kept_says_none Event Event t = refl
kept_says_none Event Query t = refl
kept_says_none Query Member t = refl
kept_says_none Query Event t = refl
kept_says_none Query Query t = refl

pub lowest-kept_clock : (k j : ClockKind) (text : List ℕ) (t : ℕ) → is_whole text ≡ true → t < 2 ^ 64 - 1 → min_in k (text ++ kept_clock_line j t) ≡ min_in k text
lowest-kept_clock k j text t whole small = omega (arith, lowest-line k text (kept_clock_text j t) 0 whole (kept_no_newline j t) (kept_says_none k j t))

-- a zero in front changes no time
zero_in_front : (t : ℕ) → t < 2 ^ 64 - 1 → time_text_value (Some (48 ∷ decimal t)) ≡ t
zero_in_front t small =
    let low : t < 2 ^ 64 = omega arith in
    let value = digits_value-decimal own t low in
    let below : read_on 0 (decimal t) < 2 ^ 64 - 1 = omega arith in
    cond-true _ _ _ (and_from _ _ (digits_decimal own t low) (lt-ltb (read_on 0 (decimal t)) (2 ^ 64 - 1) below)) ∙ value

pub kept_value : (k : ClockKind) (t : ℕ) → t < 2 ^ 64 - 1 → line_value k (kept_clock_text k t) ≡ t
kept_value Member t small = zero_in_front t small
kept_value Event t small = zero_in_front t small
kept_value Query t small = zero_in_front t small

kept_value-other : (k j : ClockKind) (t : ℕ) → k ≢ j → line_value k (kept_clock_text j t) ≡ 0
kept_value-other Member Member t h = absurd (h refl)
kept_value-other Member Event t h = refl
kept_value-other Member Query t h = refl
kept_value-other Event Member t h = refl
kept_value-other Event Event t h = absurd (h refl)
kept_value-other Event Query t h = refl
kept_value-other Query Member t h = refl
kept_value-other Query Event t h = refl
kept_value-other Query Query t h = absurd (h refl)

clock-line_says : (k : ClockKind) (text l : List ℕ) (value : ℕ) → is_whole text ≡ true → has_no_newline l ≡ true → line_value k l ≡ value → last_clock k (text ++ (l ++ 10 ∷ [])) ≡ max (last_clock k text) value
clock-line_says k text l value whole none is =
    let all : last_clock k (text ++ (l ++ 10 ∷ [])) ≡ largest k (lines_of text ++ l ∷ []) = ap (largest k) (lines-line text l whole none) in
    let both = largest-append k (lines_of text) (l ∷ []) in
    omega (arith, all, both, is)

pub last_clock-kept_line : (k : ClockKind) (text : List ℕ) (t : ℕ) → is_whole text ≡ true → t < 2 ^ 64 - 1 → last_clock k (text ++ kept_clock_line k t) ≡ max (last_clock k text) t
last_clock-kept_line k text t whole small = clock-line_says k text (kept_clock_text k t) t whole (kept_no_newline k t) (kept_value k t small)

pub last_clock-kept_other : (k j : ClockKind) (text : List ℕ) (t : ℕ) → is_whole text ≡ true → t < 2 ^ 64 - 1 → k ≢ j → last_clock k (text ++ kept_clock_line j t) ≡ last_clock k text
last_clock-kept_other k j text t whole small other = omega (arith, clock-line_says k text (kept_clock_text j t) 0 whole (kept_no_newline j t) (kept_value-other k j t other))

-- ---- longer texts, and sealed ones

pub lowest-grows : (k : ClockKind) (front tail : List ℕ) → min_in k front ≤ min_in k (front ++ tail)
lowest-grows k front tail =
    let f = front_lines front tail in
    omega (arith, ap (min_of_lines k) f.1, lowest-append k (lines_of front) f.0)

-- after a whole text
pub lowest-joined : (k : ClockKind) (front tail : List ℕ) → is_whole front ≡ true → min_in k (front ++ tail) ≡ max (min_in k front) (min_in k tail)
lowest-joined k front tail whole = ap (min_of_lines k) (lines_of-append front tail whole) ∙ lowest-append k (lines_of front) (lines_of tail)

value-sealed : (v : List ℕ) → min_text_value (Some (v ++ 35 ∷ [])) ≡ 0
value-sealed v = cond-false _ _ _ (and_right (not (is_empty (v ++ 35 ∷ []))) _ (digits_end v))

above-sealed : (v : List ℕ) → above_unkept (Some (v ++ 35 ∷ [])) ≡ 0
above-sealed v = step (begins_with_zero (v ++ 35 ∷ []))
  where
    not_time : is_time_text (v ++ 35 ∷ []) ≡ false
    not_time = and_right (not (is_empty (v ++ 35 ∷ []))) _ (and_left (all_ascii_digits (v ++ 35 ∷ [])) _ (digits_end v))

    step : (b : Bool) → cond b 0 (cond (is_time_text (v ++ 35 ∷ [])) (read_on 0 (v ++ 35 ∷ []) + 1) 0) ≡ 0
    step true = refl
    step false = cond-false _ _ _ not_time

sealed_says : (k : ClockKind) (u : List ℕ) → min_of_line k (u ++ 35 ∷ []) ≡ 0
sealed_says k u =
    let a : min_text_value (following (min_prefix k) (u ++ 35 ∷ [])) ≡ 0 = by_min k in
    let b : above_unkept (following (prefix_of k) (u ++ 35 ∷ [])) ≡ 0 = by_clock k in
    omega (arith, a, b)
  where
    by_min : (k : ClockKind) → min_text_value (following (min_prefix k) (u ++ 35 ∷ [])) ≡ 0
    by_min Member = hash_after-sealed 0 min_text_value refl value-sealed 108 (101 ∷ 97 ∷ 115 ∷ 116 ∷ 32 ∷ prefix_of Member) u refl
    by_min Event = hash_after-sealed 0 min_text_value refl value-sealed 108 (101 ∷ 97 ∷ 115 ∷ 116 ∷ 32 ∷ prefix_of Event) u refl
    by_min Query = hash_after-sealed 0 min_text_value refl value-sealed 108 (101 ∷ 97 ∷ 115 ∷ 116 ∷ 32 ∷ prefix_of Query) u refl

    by_clock : (k : ClockKind) → above_unkept (following (prefix_of k) (u ++ 35 ∷ [])) ≡ 0
    by_clock Member = following-sealed 0 above_unkept refl above-sealed (prefix_of Member) u refl
    by_clock Event = following-sealed 0 above_unkept refl above-sealed (prefix_of Event) u refl
    by_clock Query = following-sealed 0 above_unkept refl above-sealed (prefix_of Query) u refl

pub lowest-sealed : (k : ClockKind) (text : List ℕ) → min_in k (sealed text) ≡ min_in k text
lowest-sealed k text = step (is_whole text) refl
  where
    step : (t : Bool) → is_whole text ≡ t → min_in k (cond t text (text ++ 35 ∷ 10 ∷ [])) ≡ min_in k text
    step true e = refl
    step false e =
        let torn = torn_line text e in
        let some : 1 ≤ min_of_lines k (lines_of text) = lowest-some k (lines_of text) in
        omega (arith, ap (min_of_lines k) torn.1, lowest-append k (lines_of text) ((torn.0 ++ 35 ∷ []) ∷ []), sealed_says k torn.0)

-- When a text is worth compacting, decided by a length that stays at 2^64 - 1.
use Rattle.serf_snapshot.proofs.Names.{Bool, IfSome, List, None, Option, Some, [], ap, arith, false, length, min, nat_le, not, refl, subst, sym, true, ℕ, ◌&&◌, ◌*◌, ◌++◌, ◌+◌, ◌-◌, ◌/◌, ◌<◌, ◌^◌, ◌∙◌, ◌∷◌, ◌≡◌, ◌≤◌, le-leb, leb-true, lt-ltb, length-append, both_ways, option_map, codes, decimal, nat_lt, suc, length-encode_with, encode_lower, lower_digits, is_empty, line_above_zero, IsLengthOf, counted, Device, IsClean, Observable, appended, durable_of, flushed, event_line, compaction_bytes, time_above_zero, Event, Member, Query}

half-of : (n kept c : ℕ) → kept ≡ min n (2 ^ 64 - 1) → c ≤ 102 → nat_le c (kept / 2) ≡ nat_le (2 * c) n
half-of n kept c is short = both_ways _ _
    (λ t. le-leb (2 * c) n (omega (arith, is, leb-true c (kept / 2) t)))
    (λ t. le-leb c (kept / 2) (omega (arith, is, leb-true (2 * c) n t)))

pub worth-above : (limit n kept c : ℕ) → kept ≡ min n (2 ^ 64 - 1) → c ≤ 102 → limit < kept → nat_le c (kept / 2) ≡ (nat_lt limit n && nat_le (2 * c) n)
worth-above limit n kept c is short above =
    let longer : nat_lt limit n ≡ true = lt-ltb limit n (omega arith) in
    rw longer (half-of n kept c is short)

-- whatever holds for every text also holds for a text that is exposed
pub if_some-of : {A : Type 0} {P Q : A → Type 0} (o : Option A) → ((a : A) → P a → Q a) → IfSome o P → IfSome o Q
if_some-of None f h = h
if_some-of (Some a) f h = f a h

-- the count includes a line that was appended and flushed
pub length-kept : (d : Device) (line : List ℕ) (kept more : ℕ) → IsClean d → IsLengthOf (durable_of d) kept → length line ≡ more → IsLengthOf (durable_of (flushed (appended line d))) (min (kept + more) (2 ^ 64 - 1))
length-kept d line kept more clean is long = by d.observed_bytes clean is
  where
    by : (o : Option Observable) → IfSome o (λ (t : Observable). t.buffered ≡ []) → IsLengthOf (option_map (λ (t : Observable). t.durable) o) kept
        → IsLengthOf (option_map (λ (t : Observable). t.durable) (option_map (λ (t : Observable). record { buffered = []; durable = t.durable ++ t.buffered }) (option_map (λ (t : Observable). record { buffered = t.buffered ++ line; durable = t.durable }) o))) (min (kept + more) (2 ^ 64 - 1))
    by None clean is = tt
    by (Some t) clean is =
        let empty : length t.buffered ≡ 0 = ap (λ (l : List ℕ). length l) clean in
        let all : length (t.durable ++ (t.buffered ++ line)) ≡ length t.durable + (length t.buffered + length line) = length-append t.durable (t.buffered ++ line) ∙ ap (λ n. length t.durable + n) (length-append t.buffered line) in
        omega (arith, is, empty, all, long)

pub length-noted : (old mid new : Device) (line : List ℕ) (kept more now : ℕ) → mid ≡ old → new ≡ flushed (appended line mid) → IsClean old → IsLengthOf (durable_of old) kept
    → length line ≡ more → now ≡ min (kept + more) (2 ^ 64 - 1) → IsLengthOf (durable_of new) now
length-noted old mid new line kept more now same is clean counts long total =
    rw (is, same, total) (length-kept old line kept more clean counts long)

-- the length of an event's line
pub event_line-length : (t : ℕ) (name payload : List ℕ) → length (event_line t name payload) ≡ 10 + length (decimal t) + 2 * length name + 2 * length payload
event_line-length t name payload =
    let front : List ℕ = codes "#event " ++ decimal t in
    let first : List ℕ = front ++ 32 ∷ encode_lower name in
    let text : List ℕ = first ++ 32 ∷ encode_lower payload in
    let a : length front ≡ 7 + length (decimal t) = length-append (codes "#event ") (decimal t) in
    let b : length first ≡ length front + suc (length (encode_lower name)) = length-append front (32 ∷ encode_lower name) in
    let c : length text ≡ length first + suc (length (encode_lower payload)) = length-append first (32 ∷ encode_lower payload) in
    let d : length (text ++ 10 ∷ []) ≡ length text + 1 = length-append text (10 ∷ []) in
    let n : length (encode_lower name) ≡ 2 * length name = length-encode_with lower_digits name in
    let p : length (encode_lower payload) ≡ 2 * length payload = length-encode_with lower_digits payload in
    omega (arith, a, b, c, d, n, p)

pub event_line-counted : (t : ℕ) (name payload : List ℕ) (n p texts digits all : ℕ) → n ≡ min (2 * length name) (2 ^ 64 - 1) → p ≡ min (2 * length payload) (2 ^ 64 - 1) → texts ≡ min (n + p) (2 ^ 64 - 1) → digits ≡ length (decimal t) → all ≡ min (texts + (digits + 10)) (2 ^ 64 - 1)
    → all ≡ counted (event_line t name payload)
event_line-counted t name payload n p texts digits all a b c d e =
    let each : all ≡ min (10 + length (decimal t) + 2 * length name + 2 * length payload) (2 ^ 64 - 1) = omega (arith, a, b, c, d, e) in
    each ∙ ap (λ k. min k (2 ^ 64 - 1)) (sym (event_line-length t name payload))

-- the length of a compaction's text, computed from the length of the lines that it keeps
pub compaction-counted : (lines : List ℕ) (m e q n all : ℕ) (kept : Bool) → n ≡ counted lines → kept ≡ nat_lt 0 n
    → all ≡ min (n + (length (time_above_zero false Member m) + length (time_above_zero kept Event e) + length (time_above_zero kept Query q))) (2 ^ 64 - 1) → all ≡ counted (compaction_bytes lines m e q)
compaction-counted lines m e q n all kept counts is sum =
    let same : kept ≡ not (is_empty lines) = is ∙ ap (λ (k : ℕ). nat_lt 0 k) counts ∙ some lines in
    let first : List ℕ = line_above_zero Member m in
    let second : List ℕ = time_above_zero (not (is_empty lines)) Event e in
    let third : List ℕ = time_above_zero (not (is_empty lines)) Query q in
    let a = length-append lines first in
    let b = length-append (lines ++ first) second in
    let c = length-append ((lines ++ first) ++ second) third in
    let total = subst (λ (x : Bool). all ≡ min (n + (length first + length (time_above_zero x Event e) + length (time_above_zero x Query q))) (2 ^ 64 - 1)) same sum in
    omega (arith, counts, a, b, c, total)
  where
    some : (ls : List ℕ) → nat_lt 0 (counted ls) ≡ not (is_empty ls)
    some [] = refl
    some (x ∷ xs) = lt-ltb 0 (counted (x ∷ xs)) (omega arith)

-- the counted length of a short new text is its true length
pub worth-short : (limit n kept c long : ℕ) → kept ≡ min n (2 ^ 64 - 1) → c ≡ min long (2 ^ 64 - 1) → c ≤ 102 → limit < kept → nat_le c (kept / 2) ≡ (nat_lt limit n && nat_le (2 * long) n)
worth-short limit n kept c long is counts short above = let same : c ≡ long = omega arith in rw (← same) (worth-above limit n kept c is short above)

-- Words that a line contains unchanged.
use Rattle.serf_schedule.proofs.TextNames.{◌≡◌, ◌/◌, ◌%◌, ◌<◌, ◌≤◌, ◌^◌, ℕ, zero, suc, List, [], ◌∷◌, Bool, true, inl, inr, refl, sym, subst, arith, decimal, map, ◌&&◌, slice_index, is_ascii_digit, AllByRecursion, list_all, and_parts, cases_lt, decimal_nonempty, digits_decimal, common_steps, All-cons, All-nil, IsBytes, encode_lower, encode_with, lower_digits, length-encode_with, hex_text}
use Rattle.serf_schedule.proofs.Names.{All, IsWord, is_plain}
use Rattle.serf_schedule.proofs.WordsBack.{digits, hex-some}

both : (a b : Bool) → a ≡ true → b ≡ true → (a && b) ≡ true
both a b p q = rw (p, q) refl

-- Numbers

plain-digit : (c : ℕ) → is_ascii_digit c ≡ true → is_plain c ≡ true
plain-digit c h = grind (arith, common_steps)

plain-digits : (cs : List ℕ) → list_all is_ascii_digit cs ≡ true → list_all is_plain cs ≡ true
plain-digits [] h = refl
plain-digits (c ∷ cs) h =
    let parts = and_parts (is_ascii_digit c) (list_all is_ascii_digit cs) h in
    both (is_plain c) (list_all is_plain cs) (plain-digit c parts.0) (plain-digits cs parts.1)

pub number-word : (n : ℕ) → n < 2 ^ 64 → IsWord (decimal n)
number-word n h = record { some = decimal_nonempty n h; plain = plain-digits (decimal n) (digits_decimal digits n h) }

-- Bytes

abbrev plain_below : ℕ → Bool
plain_below zero = true
plain_below (suc n) = is_plain (slice_index lower_digits n) && plain_below n

plain-at : (n k : ℕ) → plain_below n ≡ true → k < n → is_plain (slice_index lower_digits k) ≡ true
plain-at zero k h lt = absurd (omega arith)
plain-at (suc n) k h lt =
    let parts = and_parts (is_plain (slice_index lower_digits n)) (plain_below n) h in
    elim (cases_lt k n) [
      | inl below ↦ plain-at n k parts.1 below
      | inr top ↦
          let e : k ≡ n = omega arith in
          rw e parts.0
    ]

plain-hex : (bytes : List ℕ) → IsBytes bytes → list_all is_plain (encode_lower bytes) ≡ true
unfolding encode_with
plain-hex [] h = refl
plain-hex (b ∷ bytes) h =
    let fits : b < 256 = h 0 in
    let high = plain-at 16 (b / 16) refl (omega arith) in
    let low = plain-at 16 (b % 16) refl (omega arith) in
    both _ _ high (both _ _ low (plain-hex bytes (λ k. h (suc k))))

pub hex-word : (bytes : List ℕ) → IsBytes bytes → IsWord (hex_text bytes)
unfolding hex_text
hex-word [] h = record { some = omega arith; plain = refl }
hex-word (b ∷ bytes) h =
    let long = length-encode_with lower_digits (b ∷ bytes) in
    let whole : IsWord (encode_lower (b ∷ bytes)) = record { some = omega (arith, long); plain = plain-hex (b ∷ bytes) h } in
    subst IsWord (sym (hex-some b bytes)) whole

pub hex-words : (lists : List (List ℕ)) → AllByRecursion IsBytes lists → AllByRecursion IsWord (map hex_text lists)
hex-words [] h = h
hex-words (list ∷ lists) h = (hex-word list h.0, hex-words lists h.1)

-- what the test says about each byte
pub above-space : (word : List ℕ) → list_all is_plain word ≡ true → All (λ b. 33 ≤ b) word
above-space [] h = All-nil (λ b. 33 ≤ b)
above-space (b ∷ bs) h =
    let parts = and_parts (is_plain b) (list_all is_plain bs) h in
    let here : 33 ≤ b = let p = parts.0 in grind (arith, common_steps) in
    All-cons (λ b. 33 ≤ b) b bs here (above-space bs parts.1)

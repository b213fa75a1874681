-- The words of a message's text are read back.
use Rattle.serf_packets.proofs.Names.{Bool, List, Some, [], ap, arith, decimal, false, inl, inr, length, negsuc, pos, refl, rules, subst, suc, sym, true, zero, ℕ, ℤ, ◌%◌, ◌-◌, ◌/◌, ◌<◌, ◌^◌, ◌∙◌, ◌∷◌, ◌≡◌, ◌≤◌, and_parts, cases_lt, decimal_nonempty, digits_decimal, digits_value-decimal, common_steps, IsNumeralModel, numerals_by_value, is_ascii_digit, signed_decimal, list_all, nat_le, nat_lt, slice_index, unwrap_or, ◌&&◌, ◌==◌, digits_value, decode_of-encode_lower, length-encode_with, IsBytes, encode_lower, lower_digits, encode_with, fits, hex_text, between, bytes_of, number_of, below_zero, bytes_meant, number_up_to, signed_meant}

-- Numbers

digits : IsNumeralModel (λ ds. list_all is_ascii_digit ds ≡ true) (digits_value 10)
digits = numerals_by_value _ (search rules)

number-of : (n : ℕ) → n < 2 ^ 64 → number_of (decimal n) ≡ Some n
number-of n h =
    let some = decimal_nonempty n h in
    let value : digits_value 10 (decimal n) ≡ n = digits_value-decimal digits n h in
    rw (digits_decimal digits n h, value) (grind (arith, common_steps))

within : (low top n : ℕ) → low ≤ n → n ≤ top → between low top (Some n) ≡ Some n
within low top n from to = grind (arith, common_steps)

pub number_back : (top n : ℕ) → n ≤ top → top < 2 ^ 64 → number_up_to top (decimal n) ≡ n
number_back top n h fit = ap (λ o. unwrap_or (between 0 top o) 0) (number-of n (omega arith)) ∙ ap (λ o. unwrap_or o 0) (within 0 top n (omega arith) h)

-- Numbers with a sign

-- digits don't begin with a sign
unsigned : (ds : List ℕ) → 0 < length ds → list_all is_ascii_digit ds ≡ true → signed_meant ds ≡ pos (number_up_to 9223372036854775807 ds)
unsigned [] some h = absurd (omega arith)
unsigned (d ∷ ds) some h =
    let here = (and_parts (is_ascii_digit d) (list_all is_ascii_digit ds) h).0 in
    let apart : (d == 45) ≡ false = grind (arith, common_steps) in
    rw apart refl

from-zero : (n : ℕ) → n ≤ 9223372036854775807 → signed_meant (decimal n) ≡ pos n
from-zero n h =
    unsigned (decimal n) (decimal_nonempty n (omega arith)) (digits_decimal digits n (omega arith))
    ∙ ap pos (number_back 9223372036854775807 n h (omega arith))

fits-above : (n : ℕ) → fits (pos n) ≡ Some (pos n) → n ≤ 9223372036854775807
fits-above n h = grind (arith, common_steps)

fits-below : (n : ℕ) → fits (negsuc n) ≡ Some (negsuc n) → n < 9223372036854775808
fits-below n h = grind (arith, common_steps)

below : (n : ℕ) → n < 9223372036854775808 → below_zero (suc n) ≡ negsuc n
below n h =
    let some : nat_lt 0 (suc n) ≡ true = grind (arith, common_steps) in
    let few : nat_le (suc n) 9223372036854775808 ≡ true = grind (arith, common_steps) in
    let e : suc n - 1 ≡ n = omega arith in
    rw (some, few, e) refl

pub signed_back : (z : ℤ) → fits z ≡ Some z → signed_meant (signed_decimal z) ≡ z
signed_back (pos n) h = from-zero n (fits-above n h)
signed_back (negsuc n) h =
    let low = fits-below n h in
    ap below_zero (number_back 9223372036854775808 (suc n) (omega arith) (omega arith)) ∙ below n low

-- Bytes

apart-by : (n k : ℕ) → k < n → (n == k) ≡ false
apart-by n k h = grind (arith, common_steps)

-- the text of at least one byte isn't a dash
hex-some : (b : ℕ) (bs : List ℕ) → hex_text (b ∷ bs) ≡ encode_lower (b ∷ bs)
unfolding hex_text
hex-some b bs = let some : (length (b ∷ bs) == 0) ≡ false = apart-by (length (b ∷ bs)) 0 (omega arith) in rw some refl

two-digits : (b : ℕ) (bs : List ℕ) → IsBytes (b ∷ bs) → bytes_of (encode_lower (b ∷ bs)) ≡ Some (b ∷ bs)
two-digits b bs h =
    let long = length-encode_with lower_digits (b ∷ bs) in
    let not_one : (length (encode_lower (b ∷ bs)) == 1) ≡ false = apart-by (length (encode_lower (b ∷ bs))) 1 (omega (arith, long)) in
    rw (not_one, decode_of-encode_lower (b ∷ bs) h) refl

bytes-of : (bytes : List ℕ) → IsBytes bytes → bytes_of (hex_text bytes) ≡ Some bytes
unfolding hex_text
bytes-of [] h = refl
bytes-of (b ∷ bs) h = ap bytes_of (hex-some b bs) ∙ two-digits b bs h

pub bytes_back : (bytes : List ℕ) → IsBytes bytes → bytes_meant (hex_text bytes) ≡ bytes
bytes_back bytes h = ap (λ o. unwrap_or o []) (bytes-of bytes h)

-- Words have no space and no newline

abbrev pub is_plain : ℕ → Bool
is_plain b = nat_le 33 b

pub record IsPlain (word : List ℕ) : Type 0 where
  pub each : list_all is_plain word ≡ true

both : (a b : Bool) → a ≡ true → b ≡ true → (a && b) ≡ true
both a b p q = rw (p, q) refl

plain-digit : (c : ℕ) → is_ascii_digit c ≡ true → is_plain c ≡ true
plain-digit c h = grind (arith, common_steps)

plain-digits : (cs : List ℕ) → list_all is_ascii_digit cs ≡ true → list_all is_plain cs ≡ true
plain-digits [] h = refl
plain-digits (c ∷ cs) h =
    let parts = and_parts (is_ascii_digit c) (list_all is_ascii_digit cs) h in
    both (is_plain c) (list_all is_plain cs) (plain-digit c parts.0) (plain-digits cs parts.1)

pub plain_number : (n : ℕ) → n < 2 ^ 64 → IsPlain (decimal n)
plain_number n h = record { each = plain-digits (decimal n) (digits_decimal digits n h) }

pub plain_signed : (z : ℤ) → fits z ≡ Some z → IsPlain (signed_decimal z)
plain_signed (pos n) h = let low = fits-above n h in plain_number n (omega arith)
plain_signed (negsuc n) h =
    let low = fits-below n h in
    record { each = both true (list_all is_plain (decimal (suc n))) refl (plain_number (suc n) (omega arith)).each }

abbrev plain_below : ℕ → Bool
plain_below zero = true
plain_below (suc n) = is_plain (slice_index lower_digits n) && plain_below n

plain-at : (n k : ℕ) → plain_below n ≡ true → k < n → is_plain (slice_index lower_digits k) ≡ true
plain-at zero k h lt = absurd (omega arith)
plain-at (suc n) k h lt =
    let parts = and_parts (is_plain (slice_index lower_digits n)) (plain_below n) h in
    elim (cases_lt k n) [
      | inl below ↦ plain-at n k parts.1 below
      | inr top ↦
          let e : k ≡ n = omega arith in
          rw e parts.0
    ]

plain-hex : (bytes : List ℕ) → IsBytes bytes → list_all is_plain (encode_lower bytes) ≡ true
unfolding encode_with
plain-hex [] h = refl
plain-hex (b ∷ bytes) h =
    let fit : b < 256 = h 0 in
    let high = plain-at 16 (b / 16) refl (omega arith) in
    let low = plain-at 16 (b % 16) refl (omega arith) in
    both _ _ high (both _ _ low (plain-hex bytes (λ k. h (suc k))))

pub plain_bytes : (bytes : List ℕ) → IsBytes bytes → IsPlain (hex_text bytes)
unfolding hex_text
plain_bytes [] h = record { each = refl }
plain_bytes (b ∷ bytes) h = subst IsPlain (sym (hex-some b bytes)) (record { each = plain-hex (b ∷ bytes) h })

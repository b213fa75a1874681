-- Words that were written are read back.
use Rattle.serf_schedule.proofs.TextNames.{◌≡◌, ◌<◌, ◌^◌, ◌∙◌, ℕ, List, [], ◌∷◌, length, true, false, Some, refl, ap, arith, rules, decimal, ◌==◌, is_ascii_digit, list_all, digits_value, decimal_nonempty, digits_decimal, digits_value-decimal, common_steps, IsNumeralModel, numerals_by_value, IsBytes, encode_lower, lower_digits, decode_of-encode_lower, length-encode_with, hex_text, bytes_of, number_of}

-- Numbers

pub digits : IsNumeralModel (λ ds. list_all is_ascii_digit ds ≡ true) (digits_value 10)
digits = numerals_by_value _ (search rules)

pub number-back : (n : ℕ) → n < 2 ^ 64 → number_of (decimal n) ≡ Some n
number-back n h =
    let some = decimal_nonempty n h in
    let value : digits_value 10 (decimal n) ≡ n = digits_value-decimal digits n h in
    rw (digits_decimal digits n h, value) (grind (arith, common_steps))

-- Bytes

apart : (n k : ℕ) → k < n → (n == k) ≡ false
apart n k h = grind (arith, common_steps)

-- the text of at least one byte isn't a dash
pub hex-some : (b : ℕ) (bs : List ℕ) → hex_text (b ∷ bs) ≡ encode_lower (b ∷ bs)
unfolding hex_text
hex-some b bs = let some : (length (b ∷ bs) == 0) ≡ false = apart (length (b ∷ bs)) 0 (omega arith) in rw some refl

two-digits : (b : ℕ) (bs : List ℕ) → IsBytes (b ∷ bs) → bytes_of (encode_lower (b ∷ bs)) ≡ Some (b ∷ bs)
two-digits b bs h =
    let long = length-encode_with lower_digits (b ∷ bs) in
    let not_one : (length (encode_lower (b ∷ bs)) == 1) ≡ false = apart (length (encode_lower (b ∷ bs))) 1 (omega (arith, long)) in
    rw (not_one, decode_of-encode_lower (b ∷ bs) h) refl

pub bytes-back : (bytes : List ℕ) → IsBytes bytes → bytes_of (hex_text bytes) ≡ Some bytes
unfolding hex_text
bytes-back [] h = refl
bytes-back (b ∷ bs) h = ap bytes_of (hex-some b bs) ∙ two-digits b bs h

-- A coded text has only coded bytes.
use Rattle.serf_draw.proofs.Names.{Bool, List, [], arith, codes, cond, decimal, false, refl, true, ℕ, ◌%◌, ◌+◌, ◌<◌, ◌^◌, ◌∙◌, ◌∷◌, ◌≡◌, nat_tests, decimal_by_steps, list_all-append, list_all, coded, coded_byte, is_coded, is_plain, is_printable, between}

digit_coded : (d : ℕ) → d < 10 → is_coded (48 + d) ≡ true
digit_coded d h = grind (arith, nat_tests)

digits_coded : (n : ℕ) → n < 2 ^ 64 → list_all is_coded (decimal n) ≡ true
digits_coded n h =
    decimal_by_steps (λ n ds. list_all is_coded ds ≡ true)
    (λ n small. rw (digit_coded n small) refl)
    (λ n ds large more. let d : n % 10 < 10 = omega arith in list_all-append is_coded ds ((48 + n % 10) ∷ []) ∙ rw (more, digit_coded (n % 10) d) refl)
    n h

number_coded : (b : ℕ) → b < 2 ^ 64 → list_all is_coded (between (codes "#") b (codes ";")) ≡ true
unfolding between
number_coded b h = list_all-append is_coded (decimal b) (codes ";") ∙ rw (digits_coded b h) refl

by_tests : (b : ℕ) (plain printable : Bool) → is_plain b ≡ plain → is_printable b ≡ printable → list_all is_coded (cond plain (b ∷ []) (cond printable (between (codes "#") b (codes ";")) (codes "#65533;"))) ≡ true
by_tests b true printable e f = rw e refl
by_tests b false true e f = number_coded b (grind (arith, nat_tests))
by_tests b false false e f = refl

byte_coded : (b : ℕ) → list_all is_coded (coded_byte b) ≡ true
byte_coded b = by_tests b (is_plain b) (is_printable b) refl refl

pub all_coded : (text : List ℕ) → list_all is_coded (coded text) ≡ true
all_coded [] = refl
all_coded (b ∷ bs) = grind (arith, list_all-append, byte_coded b, all_coded bs)

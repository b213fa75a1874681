-- An escaped text is safe.
use Rattle.serf_draw.proofs.Names.{Bool, List, [], arith, codes, cond, false, nat_lt, refl, true, ℕ, ◌==◌, ◌||◌, ◌∷◌, ◌≡◌, list_all-append, list_all, escape, escaped_byte, is_safe}

by_tests : (b : ℕ) (amp less greater quote single low high : Bool) → (b == 60) ≡ less → (b == 62) ≡ greater → (b == 34) ≡ quote → (b == 39) ≡ single → nat_lt b 32 ≡ low → nat_lt 126 b ≡ high
    → list_all is_safe (cond amp (codes "&amp;") (cond less (codes "&lt;") (cond greater (codes "&gt;") (cond quote (codes "&quot;") (cond single (codes "&#39;") (cond (low || high) (codes "&#65533;") (b ∷ []))))))) ≡ true
by_tests b true less greater quote single low high e2 e3 e4 e7 e5 e6 = refl
by_tests b false true greater quote single low high e2 e3 e4 e7 e5 e6 = refl
by_tests b false false true quote single low high e2 e3 e4 e7 e5 e6 = refl
by_tests b false false false true single low high e2 e3 e4 e7 e5 e6 = refl
by_tests b false false false false true low high e2 e3 e4 e7 e5 e6 = refl
by_tests b false false false false false true high e2 e3 e4 e7 e5 e6 = refl
by_tests b false false false false false false true e2 e3 e4 e7 e5 e6 = refl
by_tests b false false false false false false false e2 e3 e4 e7 e5 e6 = rw (e2, e3, e4, e7, e5, e6) refl

byte_safe : (b : ℕ) → list_all is_safe (escaped_byte b) ≡ true
byte_safe b = by_tests b (b == 38) (b == 60) (b == 62) (b == 34) (b == 39) (nat_lt b 32) (nat_lt 126 b) refl refl refl refl refl refl

pub all_safe : (text : List ℕ) → list_all is_safe (escape text) ≡ true
all_safe [] = refl
all_safe (b ∷ bs) = grind (arith, list_all-append, byte_safe b, all_safe bs)

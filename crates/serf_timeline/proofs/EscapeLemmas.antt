-- An escaped text is safe.
use Rattle.serf_timeline.proofs.Names.{Bool, List, [], arith, codes, cond, false, refl, true, ℕ, ◌==◌, ◌∷◌, ◌≡◌, list_all-append, list_all, data_byte, data_text, html, html_byte, is_data, is_text}

by_tests : (b : ℕ) (amp less greater quote single : Bool) → (b == 60) ≡ less → (b == 62) ≡ greater → (b == 34) ≡ quote → (b == 39) ≡ single
    → list_all is_text (cond amp (codes "&amp;") (cond less (codes "&lt;") (cond greater (codes "&gt;") (cond quote (codes "&quot;") (cond single (codes "&#39;") (b ∷ [])))))) ≡ true
by_tests b true less greater quote single e2 e3 e4 e5 = refl
by_tests b false true greater quote single e2 e3 e4 e5 = refl
by_tests b false false true quote single e2 e3 e4 e5 = refl
by_tests b false false false true single e2 e3 e4 e5 = refl
by_tests b false false false false true e2 e3 e4 e5 = refl
by_tests b false false false false false e2 e3 e4 e5 = rw (e2, e3, e4, e5) refl

text_byte : (b : ℕ) → list_all is_text (html_byte b) ≡ true
text_byte b = by_tests b (b == 38) (b == 60) (b == 62) (b == 34) (b == 39) refl refl refl refl

pub all_text : (text : List ℕ) → list_all is_text (html text) ≡ true
all_text [] = refl
all_text (b ∷ bs) = grind (arith, list_all-append, text_byte b, all_text bs)

by_test : (b : ℕ) (less : Bool) → (b == 60) ≡ less → list_all is_data (cond less (codes "\\u003c") (b ∷ [])) ≡ true
by_test b true e = refl
by_test b false e = rw e refl

data_safe : (b : ℕ) → list_all is_data (data_byte b) ≡ true
data_safe b = by_test b (b == 60) refl

pub all_data : (objects : List ℕ) → list_all is_data (data_text objects) ≡ true
all_data [] = refl
all_data (b ∷ bs) = grind (arith, list_all-append, data_safe b, all_data bs)

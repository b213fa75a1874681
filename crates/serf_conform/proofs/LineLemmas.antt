-- The contents of a line from which at most eight words are taken.
use Rattle.serf_conform.proofs.Names.{List, [], ap, arith, false, length, refl, subst, sym, true, ℕ, ◌++◌, ◌<◌, ◌∙◌, ◌≡◌, ◌≤◌, common_steps, append-nil, length-append, Err, nat_lt, word_at, WordCount, counted_words, kind_of, line_of}

-- a line with more than eight words
pub long_line : (all ws more : List (List ℕ)) → ws ++ more ≡ all → length ws ≡ 8 → 0 < length more → line_of all ≡ Err WordCount
unfolding line_of
long_line all ws more joined eight some =
    let total = length-append ws more in
    let sum = ap length joined in
    let many : 8 < length all = omega (arith, total, sum) in
    let test : nat_lt 8 (length all) ≡ true = grind (arith, common_steps) in
    rw test refl

-- a line from which all words are taken
pub short_line : (all ws : List (List ℕ)) → ws ++ [] ≡ all → length ws ≤ 8 → line_of all ≡ counted_words (kind_of (word_at 1 ws) (word_at 2 ws)) ws
unfolding line_of
short_line all ws joined few =
    let test : nat_lt 8 (length ws) ≡ false = grind (arith, common_steps) in
    let same : ws ≡ all = sym (append-nil ws) ∙ joined in
    subst (λ (x : List (List ℕ)). line_of x ≡ counted_words (kind_of (word_at 1 ws) (word_at 2 ws)) ws) same (rw test refl)

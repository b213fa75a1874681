-- The first place that passes, while the places before it are skipped.
use Rattle.serf_judge.proofs.Names.{Bool, List, None, Some, ap, arith, cond, false, length, true, ℕ, ◌+◌, ◌-◌, ◌∙◌, ◌∷◌, ◌≡◌, ◌≤◌, nil_from_length, position_from}

pub none-left : {K : Type 0} (p : K → Bool) (k : ℕ) (xs : List K) → length xs ≡ 0 → position_from p k xs ≡ None
none-left p k xs empty = ap (position_from p k) (nil_from_length xs empty)

-- after one that fails, the first place is the first among those after it
pub passed-by : {K : Type 0} (p : K → Bool) (n : ℕ) (x : K) (xs : List K) → length xs + 1 ≤ n → p x ≡ false
    → position_from p (n - (length xs + 1)) (x ∷ xs) ≡ position_from p (n - length xs) xs
passed-by p n x xs fits fails =
    let next : n - (length xs + 1) + 1 ≡ n - length xs = omega (arith, fits) in
    ap (λ b. cond b (Some (n - (length xs + 1))) (position_from p (n - (length xs + 1) + 1) xs)) fails
    ∙ ap (λ k. position_from p k xs) next

-- one that passes is the first
pub found : {K : Type 0} (p : K → Bool) (k : ℕ) (x : K) (xs : List K) → p x ≡ true → position_from p k (x ∷ xs) ≡ Some k
found p k x xs passes = ap (λ b. cond b (Some k) (position_from p (k + 1) xs)) passes

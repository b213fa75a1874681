-- A text split at the first byte that passes a test.
use Rattle.serf_text.proofs.Names.{List, None, Option, Some, [], ap, arith, cond, drop, false, length, nat_lt, sym, take, ℕ, ◌+◌, ◌-◌, ◌<◌, ◌==◌, ◌∙◌, ◌∷◌, ◌≡◌, ◌≤◌, cond-false, cond-true, false_from_ne_true, le-ltb, lt-ltb, common_steps, All-from_get_or, position-Some, slice_split_first, slice_split_none, position_or_len_is, All, position_or_len, slice_split, IfNone, position, IsFirstByte, is_byte}

pub cut_some : (s : ℕ) (xs : List ℕ) (k : ℕ) → position (λ b. b == s) xs ≡ Some k
    → slice_split (λ b. b == s) xs ≡ take k xs ∷ slice_split (λ b. b == s) (take (length xs - (k + 1)) (drop (k + 1) xs))
cut_some s xs k e =
    let h = position-Some (λ (b : ℕ). b == s) xs k 0 e in
    let within : k ≤ length xs = omega (arith, h.0) in
    let at : position_or_len (λ b. b == s) xs ≡ k = position_or_len_is (λ b. b == s) xs k 0 within h.2 (λ _. h.1) in
    let lt : position_or_len (λ b. b == s) xs < length xs = rw at h.0 in
    let whole : take (length xs - (k + 1)) (drop (k + 1) xs) ≡ drop (k + 1) xs = grind (arith, common_steps) in
    rw whole (rw at at (slice_split_first (λ (b : ℕ). b == s) xs 0 lt))

pub cut_none : (s : ℕ) (xs : List ℕ) → All (λ b. (b == s) ≡ false) xs
    → slice_split (λ b. b == s) xs ≡ xs ∷ []
cut_none s xs none = slice_split_none (λ (b : ℕ). b == s) xs none

pub ruleset cut_steps = (cut_some, cut_none)

-- the result of a search that inspects many bytes at once
pub search-place : (s : ℕ) (xs : List ℕ) (r : Option ℕ) → IsFirstByte (is_byte s) xs r → r ≡ position (λ b. b == s) xs
search-place s xs None nowhere =
    let at : position_or_len (λ b. b == s) xs ≡ length xs = position_or_len_is (λ b. b == s) xs (length xs) 0 (omega arith) (λ k h. false_from_ne_true _ (nowhere k (omega arith) h)) (λ h. absurd (omega (arith, h))) in
    sym (ap (λ n. cond (nat_lt n (length xs)) (Some n) None) at ∙ cond-false (nat_lt (length xs) (length xs)) (Some (length xs)) None (le-ltb (length xs) (length xs) (omega arith)))
search-place s xs (Some k) found =
    let high : k < length xs = found.0.high in
    let at : position_or_len (λ b. b == s) xs ≡ k = position_or_len_is (λ b. b == s) xs k 0 (omega (arith, high)) (λ i h. false_from_ne_true _ (found.0.before i (omega arith) h)) (λ _. found.1) in
    sym (ap (λ n. cond (nat_lt n (length xs)) (Some n) None) at ∙ cond-true (nat_lt k (length xs)) (Some k) None (lt-ltb k (length xs) high))

pub search-none : (s : ℕ) (xs : List ℕ) (r : Option ℕ) → IsFirstByte (is_byte s) xs r → IfNone r (All (λ b. (b == s) ≡ false) xs)
search-none s xs None nowhere = All-from_get_or (λ b. (b == s) ≡ false) xs 0 (λ k h. false_from_ne_true _ (nowhere k (omega arith) h))
search-none s xs (Some k) found = tt

-- Sublists.
use Rattle.serf_conform.proofs.Names.{List, [], arith, drop, inl, inr, length, refl, suc, take, zero, ℕ, ◌++◌, ◌-◌, ◌∙◌, ◌∷◌, ◌≡◌, ◌≤◌, length-drop, IsSublist}

pub sublist-refl : {A : Type 0} (xs : List A) → IsSublist xs xs
sublist-refl [] = tt
sublist-refl (x ∷ xs) = inl (refl, sublist-refl xs)

pub sublist-trans : {A : Type 0} (xs ys zs : List A) → IsSublist xs ys → IsSublist ys zs → IsSublist xs zs
sublist-trans [] ys zs first second = tt
sublist-trans (x ∷ xs) [] zs first second = absurd first
sublist-trans (x ∷ xs) (y ∷ ys) [] first second = absurd second
sublist-trans (x ∷ xs) (y ∷ ys) (z ∷ zs) (inl (same, first)) (inl (is, second)) = inl (same ∙ is, sublist-trans xs ys zs first second)
sublist-trans (x ∷ xs) (y ∷ ys) (z ∷ zs) (inr first) (inl (is, second)) = inr (sublist-trans (x ∷ xs) ys zs first second)
sublist-trans (x ∷ xs) (y ∷ ys) (z ∷ zs) first (inr second) = inr (sublist-trans (x ∷ xs) (y ∷ ys) zs first second)

-- with one more item in front
following : {A : Type 0} (xs : List A) (y : A) (ys : List A) → IsSublist xs ys → IsSublist xs (y ∷ ys)
following [] y ys is = tt
following (x ∷ xs) y ys is = inr is

drop-sublist : {A : Type 0} (n : ℕ) (xs : List A) → IsSublist (drop n xs) xs
drop-sublist zero xs = sublist-refl xs
drop-sublist (suc n) [] = tt
drop-sublist (suc n) (x ∷ xs) = following (drop n xs) x xs (drop-sublist n xs)

pub removed-sublist : {A : Type 0} (i j : ℕ) (xs : List A) → i ≤ j → IsSublist (take i xs ++ drop j xs) xs
removed-sublist zero j xs below = drop-sublist j xs
removed-sublist (suc i) zero xs below = absurd (omega arith)
removed-sublist (suc i) (suc j) [] below = tt
removed-sublist (suc i) (suc j) (x ∷ xs) below = inl (refl, removed-sublist i j xs (omega arith))

pub removed-length : {A : Type 0} (i j : ℕ) (xs : List A) → i ≤ j → j ≤ length xs → length (take i xs ++ drop j xs) ≡ length xs - (j - i)
removed-length zero j xs below within = rw (length-drop j xs) (omega arith)
removed-length (suc i) zero xs below within = absurd (omega arith)
removed-length (suc i) (suc j) [] below within = absurd (omega arith)
removed-length (suc i) (suc j) (x ∷ xs) below within =
    let rest = removed-length i j xs (omega arith) (omega arith) in
    omega (arith, rest)

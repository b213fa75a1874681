-- A list that is within another list and has no equal elements.
use Rattle.serf_model.proofs.Names.{List, [], ap, append_assoc, arith, get_or, inl, inr, length, length-append, refl, subst, suc, sym, zero, ℕ, ◌++◌, ◌+◌, ◌<◌, ◌∙◌, ◌∷◌, ◌≡◌, ◌≢◌, ◌⊎◌, append-nil, All-contains, All-push, All-weaker, Contains-append_left, Contains-push, all_pairs_push, All, AllPairs, Contains}

-- the last element of a list that has no equal elements differs from the others
last-at : {X : Type 0} (ys : List X) (x d : X) → get_or (ys ++ x ∷ []) (length ys) d ≡ x
last-at [] x d = refl
last-at (y ∷ ys) x d = last-at ys x d

front-at : {X : Type 0} (ys : List X) (x d : X) (k : ℕ) → k < length ys → get_or (ys ++ x ∷ []) k d ≡ get_or ys k d
front-at [] x d k h = absurd (omega arith)
front-at (y ∷ ys) x d zero h = refl
front-at (y ∷ ys) x d (suc k) h = front-at ys x d k (omega arith)

length-push : {X : Type 0} (ys : List X) (x : X) → length (ys ++ x ∷ []) ≡ length ys + 1
length-push [] x = refl
length-push (y ∷ ys) x = let h = length-push ys x in omega arith

pub fresh-last : {X : Type 0} (ys : List X) (x y : X) → AllPairs (λ a b. a ≢ b) (ys ++ x ∷ []) → Contains ys y → y ≢ x
fresh-last ys x y all h same =
    all h.0 (length ys) y h.1 (let l = length-push ys x in omega arith) (front-at ys x y h.0 h.1 ∙ h.2 ∙ same ∙ sym (last-at ys x y))

-- all elements of the second list are in the first, and no two of them are equal; this remains so if both grow by the
-- same new element, or only the first grows
pub record IsWithin {X : Type 0} (all some : List X) : Type 0 where
  pub within : All (Contains all) some
  pub once : AllPairs (λ x y. x ≢ y) some

pub within-more : {X : Type 0} (all some one new : List X) → IsWithin all some → AllPairs (λ x y. x ≢ y) (all ++ one) → (new ≡ []) ⊎ ((x : X) × (new ≡ x ∷ []) × (one ≡ x ∷ [])) → IsWithin (all ++ one) (some ++ new)
within-more all some one new h once (inl none) =
    subst (IsWithin (all ++ one)) (sym (ap (λ l. some ++ l) none ∙ append-nil some))
    (record { within = All-weaker (Contains all) (Contains (all ++ one)) (λ x c. Contains-append_left all one x c) some h.within; once = h.once })
within-more {X} all some one new h once (inr adds) =
    let x : X = adds.0 in
    let pairs : AllPairs (λ x y. x ≢ y) (all ++ adds.0 ∷ []) = subst (λ l. AllPairs (λ x y. x ≢ y) (all ++ l)) adds.2 once in
    let differs : All (λ y. y ≢ adds.0) some = All-weaker (Contains all) (λ y. y ≢ adds.0) (λ y c. fresh-last all adds.0 y pairs c) some h.within in
    let more : All (Contains (all ++ adds.0 ∷ [])) some = All-weaker (Contains all) (Contains (all ++ adds.0 ∷ [])) (λ y c. Contains-append_left all (adds.0 ∷ []) y c) some h.within in
    subst (λ l. IsWithin (all ++ l) (some ++ new)) (sym adds.2) (subst (λ l. IsWithin (all ++ adds.0 ∷ []) (some ++ l)) (sym adds.1) (record {
      within = All-push (Contains (all ++ adds.0 ∷ [])) some adds.0 more (Contains-push all adds.0);
      once = all_pairs_push (λ x y. x ≢ y) some adds.0 h.once differs;
    }))

-- the first part of a list
get-front : {X : Type 0} (xs ys : List X) (d : X) (k : ℕ) → k < length xs → get_or (xs ++ ys) k d ≡ get_or xs k d
get-front [] ys d k h = absurd (omega arith)
get-front (x ∷ xs) ys d zero h = refl
get-front (x ∷ xs) ys d (suc k) h = get-front xs ys d k (omega arith)

pub pairs-front : {X : Type 0} (xs ys : List X) → AllPairs (λ x y. x ≢ y) (xs ++ ys) → AllPairs (λ x y. x ≢ y) xs
pairs-front xs ys all i j d lt within same =
    all i j d lt (omega (arith, length-append xs ys)) (get-front xs ys d i (omega arith) ∙ same ∙ sym (get-front xs ys d j within))

-- both lists grow by elements that are new to the larger one
pub within-append : {X : Type 0} (all some new : List X) → IsWithin all some → AllPairs (λ x y. x ≢ y) (all ++ new) → IsWithin (all ++ new) (some ++ new)
within-append all some [] h pairs = subst (λ l. IsWithin l (some ++ [])) (sym (append-nil all)) (subst (IsWithin all) (sym (append-nil some)) h)
within-append {X} all some (x ∷ xs) h pairs =
    let whole : (all ++ x ∷ []) ++ xs ≡ all ++ x ∷ xs = append_assoc all (x ∷ []) xs in
    let part : (some ++ x ∷ []) ++ xs ≡ some ++ x ∷ xs = append_assoc some (x ∷ []) xs in
    let longer : AllPairs (λ x y. x ≢ y) ((all ++ x ∷ []) ++ xs) = subst (AllPairs (λ x y. x ≢ y)) (sym whole) pairs in
    let one : IsWithin (all ++ x ∷ []) (some ++ x ∷ []) = within-more all some (x ∷ []) (x ∷ []) h (pairs-front (all ++ x ∷ []) xs longer) (inr (x, refl, refl)) in
    subst (λ l. IsWithin l (some ++ x ∷ xs)) whole (subst (IsWithin ((all ++ x ∷ []) ++ xs)) part (within-append (all ++ x ∷ []) (some ++ x ∷ []) xs one longer))

-- a list that has all elements of another list
pub within-wider : {X : Type 0} (all more some : List X) → All (Contains more) all → IsWithin all some → IsWithin more some
within-wider all more some wider h = record { within = All-weaker (Contains all) (Contains more) (λ x c. All-contains (Contains more) all x wider c) some h.within; once = h.once }

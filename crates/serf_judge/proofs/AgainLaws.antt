-- What appears again, and what first, after one more item was added, and what a view of the items changes.
use Rattle.serf_judge.proofs.Names.{Bool, List, [], ap, append_assoc, cond, false, map, not, refl, sym, true, ◌++◌, ◌||◌, ◌∙◌, ◌∷◌, ◌≡◌, append-nil, map-append, list_any, beq, picked_after, AreKept, kept}
use Rattle.serf_judge.proofs.RecordedLaws.{key-more}

picked-push : {X : Type 0} (keep : Bool → Bool) (eq : X → X → Bool) (before xs : List X) (x : X)
    → picked_after keep eq before (xs ++ x ∷ []) ≡ picked_after keep eq before xs ++ cond (keep (list_any (eq x) (before ++ xs))) (x ∷ []) []
picked-push keep eq before [] x = simp append-nil
picked-push keep eq before (y ∷ ys) x = rw (picked-push keep eq (before ++ y ∷ []) ys x) (simp append_assoc)

-- one more item was read, and was kept or not
pub kept-more : {X K : Type 0} (again : Bool) (eq : K → K → Bool) (turn : (x y : K) → eq x y ≡ eq y x) (key : X → K) (items found : List X) (x : X) (k : K) (b : Bool) (old new : K → Bool)
    → key x ≡ k → AreKept again eq key items found old → kept again (old k) ≡ b → ((q : K) → new q ≡ cond (eq k q) true (old q)) → AreKept again eq key (items ++ x ∷ []) (found ++ cond b (x ∷ []) []) new
kept-more again eq turn key items found x k b old new at h is step = record {
  found_are = (λ i. h.found_are i ++ cond (seen i) (x ∷ []) []) ∙ sym (picked-push (kept again) (λ y z. eq (key y) (key z)) [] items x);
  recorded_are = key-more (λ q y. eq q (key y)) items x (eq k) old new (λ q. ap (eq q) at ∙ turn q k) h.recorded_are step;
}
  where
    seen : b ≡ kept again (list_any (λ y. eq (key x) (key y)) items)
    seen = sym is ∙ ap (kept again) (ap old (sym at) ∙ h.recorded_are (key x))

-- whether it is kept, depending on whether the set had its key
pub is-dropped : (again b : Bool) → beq (not b) again ≡ true → kept again b ≡ false
is-dropped true false e = refl
is-dropped true true e = absurd (cc e)
is-dropped false true e = refl
is-dropped false false e = absurd (cc e)

pub is-kept : (again b : Bool) → beq (not b) again ≡ false → kept again b ≡ true
is-kept true true e = refl
is-kept true false e = absurd (cc e)
is-kept false false e = refl
is-kept false true e = absurd (cc e)

-- A view of the items, by which they are compared.

any-map : {X Y : Type 0} (f : X → Y) (e : X → X → Bool) (d : Y → Y → Bool) → ((x y : X) → e x y ≡ d (f x) (f y)) → (x : X) (ys : List X) → list_any (e x) ys ≡ list_any (d (f x)) (map f ys)
any-map f e d agree x [] = refl
any-map f e d agree x (y ∷ ys) = λ k. agree x y k || any-map f e d agree x ys k

map-cond : {X Y : Type 0} (f : X → Y) (b : Bool) (x : X) → map f (cond b (x ∷ []) []) ≡ cond b (f x ∷ []) []
map-cond f true x = refl
map-cond f false x = refl

pub picked-map : {X Y : Type 0} (keep : Bool → Bool) (f : X → Y) (e : X → X → Bool) (d : Y → Y → Bool) → ((x y : X) → e x y ≡ d (f x) (f y)) → (before xs : List X)
    → map f (picked_after keep e before xs) ≡ picked_after keep d (map f before) (map f xs)
picked-map keep f e d agree before [] = refl
picked-map keep f e d agree before (x ∷ xs) =
    map-append f (cond (keep (list_any (e x) before)) (x ∷ []) []) (picked_after keep e (before ++ x ∷ []) xs)
    ∙ (λ k. map-cond f (keep (any-map f e d agree x before k)) x k ++ picked-map keep f e d agree (before ++ x ∷ []) xs k)
    ∙ ap (λ b. cond (keep (list_any (d (f x)) (map f before))) (f x ∷ []) [] ++ picked_after keep d b (map f xs)) (map-append f before (x ∷ []))

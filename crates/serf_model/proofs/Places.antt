-- Places in lists.
use Rattle.serf_model.proofs.Names.{List, Some, [], ap, map, refl, set, subst, suc, sym, zero, ℕ, ◌∙◌, ◌∷◌, ◌≡◌, ◌≢◌, AllByRecursion, option_map, slice_get}

pub slice_get-set_same : {X : Type 0} (xs : List X) (k : ℕ) (x y : X) → slice_get xs k ≡ Some x → slice_get (set xs k y) k ≡ Some y
slice_get-set_same [] k x y e = absurd (cc e)
slice_get-set_same (z ∷ xs) zero x y e = refl
slice_get-set_same (z ∷ xs) (suc k) x y e = slice_get-set_same xs k x y e

pub slice_get-set_other : {X : Type 0} (xs : List X) (k j : ℕ) (y : X) → k ≢ j → slice_get (set xs k y) j ≡ slice_get xs j
slice_get-set_other [] k j y n = refl
slice_get-set_other (z ∷ xs) zero zero y n = absurd (n refl)
slice_get-set_other (z ∷ xs) zero (suc j) y n = refl
slice_get-set_other (z ∷ xs) (suc k) zero y n = refl
slice_get-set_other (z ∷ xs) (suc k) (suc j) y n = slice_get-set_other xs k j y (λ e. n (ap suc e))

pub all-at : {X : Type 0} (P : X → Type 0) (xs : List X) (a : ℕ) (x : X) → AllByRecursion P xs → slice_get xs a ≡ Some x → P x
all-at P [] a x h e = absurd (cc e)
all-at P (y ∷ xs) zero x h e = let same : y ≡ x = cc e in subst P same h.0
all-at P (y ∷ xs) (suc a) x h e = all-at P xs a x h.1 e

pub all-put : {X : Type 0} (P : X → Type 0) (xs : List X) (a : ℕ) (x : X) → AllByRecursion P xs → P x → AllByRecursion P (set xs a x)
all-put P [] a x h p = tt
all-put P (y ∷ xs) zero x h p = (p, h.1)
all-put P (y ∷ xs) (suc a) x h p = (h.0, all-put P xs a x h.1 p)

-- the element at a place of a mapped list
pub slice_get-mapped : {X Y : Type 0} (f : X → Y) (xs : List X) (k : ℕ) → slice_get (map f xs) k ≡ option_map f (slice_get xs k)
slice_get-mapped f [] k = refl
slice_get-mapped f (x ∷ xs) zero = refl
slice_get-mapped f (x ∷ xs) (suc k) = slice_get-mapped f xs k

-- if an element is replaced by one with the same image, the mapped list stays the same
pub map-put : {X Y : Type 0} (f : X → Y) (xs : List X) (k : ℕ) (x y : X) → slice_get xs k ≡ Some x → f y ≡ f x → map f (set xs k y) ≡ map f xs
map-put f [] k x y at same = refl
map-put f (z ∷ zs) zero x y at same = let here : z ≡ x = cc at in ap (λ l. l ∷ map f zs) (same ∙ ap f (sym here))
map-put f (z ∷ zs) (suc k) x y at same = ap (λ l. f z ∷ l) (map-put f zs k x y at same)

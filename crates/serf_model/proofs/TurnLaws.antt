-- Lists of turns that grow.
use Rattle.serf_model.proofs.Names.{List, [], ap, inl, inr, refl, subst, sym, ◌++◌, ◌∙◌, ◌∷◌, ◌≡◌, ◌⊎◌, append-nil, flat_map-append, All-contains_itself, All-weaker, Contains-append_left, Contains-append_right, AllByRecursion, flat_map, fold, All, Contains, AtEach, Turn}

-- what each step preserves holds after all steps
pub fold_keeps : {A B : Type 0} (P : B → Type 0) (f : B → A → B) (b : B) (xs : List A) → P b → ((c : B) (x : A) → P c → P (f c x)) → P (fold f b xs)
fold_keeps P f b [] p step = p
fold_keeps P f b (x ∷ xs) p step = fold_keeps P f (f b x) xs (step b x p) step

-- what each step at an element of this kind preserves holds after all steps
pub fold_keeps_at : {A B : Type 0} (P : B → Type 0) (Q : A → Type 0) (f : B → A → B) (b : B) (xs : List A) → P b → AllByRecursion Q xs → ((c : B) (x : A) → Q x → P c → P (f c x)) → P (fold f b xs)
fold_keeps_at P Q f b [] p all step = p
fold_keeps_at P Q f b (x ∷ xs) p all step = fold_keeps_at P Q f (f b x) xs (step b x all.0 p) all.1 step

pub both-each : {A : Type 0} (P Q : A → Type 0) (xs : List A) → AllByRecursion P xs → AllByRecursion Q xs → AllByRecursion (λ x. P x × Q x) xs
both-each P Q [] p q = tt
both-each P Q (x ∷ xs) p q = ((p.0, q.0), both-each P Q xs p.1 q.1)

-- if a list with one more element is split at an element, this element is the added one or is in the list before it
pub cut_last : {X : Type 0} (xs : List X) (x : X) (before : List X) (y : X) (rest : List X) → xs ++ x ∷ [] ≡ before ++ y ∷ rest
    → ((xs ≡ before) × (x ≡ y)) ⊎ ((r : List X) × (xs ≡ before ++ y ∷ r))
cut_last [] x [] y rest e = let same : x ≡ y = cc e in inl (refl, same)
cut_last [] x (b ∷ []) y rest e = absurd (cc e)
cut_last [] x (b ∷ c ∷ bs) y rest e = absurd (cc e)
cut_last (z ∷ zs) x [] y rest e = let same : z ≡ y = cc e in inr (zs, ap (λ w. w ∷ zs) same)
cut_last (z ∷ zs) x (b ∷ bs) y rest e =
    let head : z ≡ b = cc e in
    let tail : zs ++ x ∷ [] ≡ bs ++ y ∷ rest = cc e in
    elim (cut_last zs x bs y rest tail) [
      | inl h ↦ let both : z ∷ zs ≡ b ∷ bs = cc (head, h.0) in inl (both, h.1)
      | inr h ↦ let both : z ∷ zs ≡ b ∷ (bs ++ y ∷ h.0) = cc (head, h.1) in inr (h.0, both)
    ]

pub at_each_nil : (P : List Turn → Turn → Type 0) → AtEach P []
at_each_nil P [] turn rest e = absurd (cc e)
at_each_nil P (b ∷ bs) turn rest e = absurd (cc e)

pub at_each_push : (P : List Turn → Turn → Type 0) (turns : List Turn) (turn : Turn) → AtEach P turns → P turns turn → AtEach P (turns ++ turn ∷ [])
at_each_push P turns turn all p before t rest e =
    elim (cut_last turns turn before t rest e) [
      | inl h ↦ subst (λ (b : List Turn). P b t) h.0 (subst (P turns) h.1 p)
      | inr h ↦ all before t h.0 h.1
    ]

pub flat_map-push : {X A : Type 0} (f : X → List A) (xs : List X) (x : X) → flat_map f (xs ++ x ∷ []) ≡ flat_map f xs ++ f x
flat_map-push f xs x = flat_map-append f xs (x ∷ []) ∙ ap (λ l. flat_map f xs ++ l) (append-nil (f x))

-- what was in the parts of a list is still there after one more element, and so are the parts of this element
pub in-before : {X A : Type 0} (f : X → List A) (xs : List X) (x : X) (a : A) → Contains (flat_map f xs) a → Contains (flat_map f (xs ++ x ∷ [])) a
in-before {X} {A} f xs x a h = subst (λ (l : List A). Contains l a) (sym (flat_map-push f xs x)) (Contains-append_left (flat_map f xs) (f x) a h)

pub in-now : {X A : Type 0} (f : X → List A) (xs : List X) (x : X) (a : A) → Contains (f x) a → Contains (flat_map f (xs ++ x ∷ [])) a
in-now {X} {A} f xs x a h = subst (λ (l : List A). Contains l a) (sym (flat_map-push f xs x)) (Contains-append_right (flat_map f xs) (f x) a h)

-- if P holds of each element that a list contains, it holds of all of its elements
pub all-in : {A : Type 0} (P : A → Type 0) (xs : List A) → ((a : A) → Contains xs a → P a) → All P xs
all-in P xs up = All-weaker (Contains xs) P up xs (All-contains_itself xs)

-- the same for the parts of the parts
pub parts-push : {X A B : Type 0} (g : A → List B) (f : X → List A) (xs : List X) (x : X) → flat_map g (flat_map f (xs ++ x ∷ [])) ≡ flat_map g (flat_map f xs) ++ flat_map g (f x)
parts-push g f xs x = ap (flat_map g) (flat_map-push f xs x) ∙ flat_map-append g (flat_map f xs) (f x)

pub in-parts_before : {X A B : Type 0} (g : A → List B) (f : X → List A) (xs : List X) (x : X) (b : B) → Contains (flat_map g (flat_map f xs)) b → Contains (flat_map g (flat_map f (xs ++ x ∷ []))) b
in-parts_before {X} {A} {B} g f xs x b h = subst (λ (l : List B). Contains l b) (sym (parts-push g f xs x)) (Contains-append_left (flat_map g (flat_map f xs)) (flat_map g (f x)) b h)

pub in-parts_now : {X A B : Type 0} (g : A → List B) (f : X → List A) (xs : List X) (x : X) (b : B) → Contains (flat_map g (f x)) b → Contains (flat_map g (flat_map f (xs ++ x ∷ []))) b
in-parts_now {X} {A} {B} g f xs x b h = subst (λ (l : List B). Contains l b) (sym (parts-push g f xs x)) (Contains-append_right (flat_map g (flat_map f xs)) (flat_map g (f x)) b h)

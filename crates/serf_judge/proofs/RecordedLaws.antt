-- What a set or a table records after one more item.
use Rattle.serf_judge.proofs.Names.{Bool, Decides, List, Option, Some, [], ap, cond, false, refl, sym, true, ◌&&◌, ◌++◌, ◌||◌, ◌∙◌, ◌∷◌, ◌≡◌, same_from_decides, list_any-append, list_any, Records, says}

or-nothing : (a b : Bool) → (a || (b || false)) ≡ (a || b)
or-nothing true b = refl
or-nothing false true = refl
or-nothing false false = refl

or-cond : (a b : Bool) → (a || b) ≡ cond b true a
or-cond true true = refl
or-cond true false = refl
or-cond false true = refl
or-cond false false = refl

-- the result of a test with one more item
any-push : {X : Type 0} (test : X → Bool) (items : List X) (x : X) → list_any test (items ++ x ∷ []) ≡ (list_any test items || test x)
any-push test items x = list_any-append test items (x ∷ []) ∙ or-nothing (list_any test items) (test x)

-- one more key in a set
pub key-more : {K X : Type 0} (test : K → X → Bool) (items : List X) (x : X) (hit old new : K → Bool) → ((q : K) → test q x ≡ hit q)
    → ((q : K) → old q ≡ list_any (test q) items) → ((q : K) → new q ≡ cond (hit q) true (old q)) → (q : K) → new q ≡ list_any (test q) (items ++ x ∷ [])
key-more test items x hit old new is h step q =
    step q ∙ (λ k. cond (sym (is q) k) true (h q k)) ∙ sym (any-push (test q) items x ∙ or-cond (list_any (test q) items) (test q x))

pub turned : {C : Type 0} (same : C → C → Bool) (decides : (x y : C) → Decides (same x y) (x ≡ y)) (x y : C) → same x y ≡ same y x
turned same decides x y = same_from_decides (same x y) (same y x) (decides x y) (λ e. sym ((decides y x).0 e), λ p. (decides y x).1 (sym p))

-- one more item in a table, recorded together with those of its key
pub table-more : {K V C X P : Type 0} (same : C → C → Bool) (decides : (x y : C) → Decides (same x y) (x ≡ y)) (view : K → C) (content : X → C) (test : V → P → Bool) (passes : X → P → Bool)
    (items : List X) (x : X) (key : K) (v : V) (old new : K → Option V) → view key ≡ content x → Records same view content test passes items old
    → ((p : P) → test v p ≡ (says test (old key) p || passes x p)) → ((q : K) → new q ≡ cond (same (view key) (view q)) (Some v) (old q))
    → Records same view content test passes (items ++ x ∷ []) new
table-more {K} {V} {C} {X} {P} same decides view content test passes items x key v old new is h more step q p =
    ap (λ o. says test o p) (step q) ∙ by (same (view key) (view q)) refl ∙ sym (any-push (λ y. same (view q) (content y) && passes y p) items x)
  where
    all : C → Bool
    all c = list_any (λ y. same c (content y) && passes y p) items

    here : same (view q) (content x) ≡ same (view key) (view q)
    here = ap (same (view q)) (sym is) ∙ turned same decides (view q) (view key)

    by : (b : Bool) → same (view key) (view q) ≡ b → says test (cond b (Some v) (old q)) p ≡ (all (view q) || (same (view q) (content x) && passes x p))
    by true e =
        let there : view key ≡ view q = (decides (view key) (view q)).0 e in
        more p ∙ ap (λ b. b || passes x p) (h key p ∙ ap all there) ∙ ap (λ b. all (view q) || (b && passes x p)) (sym (here ∙ e))
    by false e = h q p ∙ sym (ap (λ b. all (view q) || (b && passes x p)) (here ∙ e) ∙ none (all (view q)))
      where
        none : (b : Bool) → (b || false) ≡ b
        none true = refl
        none false = refl

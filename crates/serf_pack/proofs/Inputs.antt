-- The whole input: if it is read, it is spelled, and if it is refused, it is malformed.
use Rattle.serf_pack.proofs.Names.{Bool, Err, List, Ok, Result, [], ap, append-nil, arith, cond, eqb, false, inl, inr, length, length-append, refl, subst, sym, true, ℕ, ◌++◌, ◌+◌, ◌<◌, ◌∙◌, ◌≡◌, ◌≤◌, eqb-true, nat_tests, nil_from_length, IfErr, IfOk, IsOkAnd, Breaks, IsMalformed, breaks, error_place, trails, Packs, Gives, place, value_at, whole_at, Tree, PackError, Trailing}
use Rattle.serf_pack.proofs.SpelledIsRead.{value_read}
use Rattle.serf_pack.proofs.Steps.{done, refused, bind_ok, bind_err}
use Rattle.serf_pack.proofs.ReadIsSpelled.{value_back}
use Rattle.serf_pack.proofs.BrokenIsRefused.{break_read}
use Rattle.serf_pack.proofs.RefusedIsBroken.{value_refused}
use Rattle.serf_pack.proofs.ErrorPlaces.{malformed_within}

abbrev ended : List ℕ → Tree × List ℕ → Result Tree PackError
ended bytes v = cond (eqb (length v.1) 0) (Ok v.0) (Err (Trailing (place (length bytes) v.1)))

ended_ok : (bytes : List ℕ) (x : Tree × List ℕ) (v : Tree) → ended bytes x ≡ Ok v → (x.1 ≡ []) × (x.0 ≡ v)
ended_ok bytes x v e = by_test (eqb (length x.1) 0) refl e
  where
    by_test : (b : Bool) → eqb (length x.1) 0 ≡ b → cond b (Ok x.0) (Err (Trailing (place (length bytes) x.1))) ≡ Ok v → (x.1 ≡ []) × (x.0 ≡ v)
    by_test true t h = (nil_from_length x.1 (eqb-true _ _ t), cc)
    by_test false t h = absurd cc

ended_err : (bytes : List ℕ) (x : Tree × List ℕ) (f : PackError) → ended bytes x ≡ Err f → (0 < length x.1) × (f ≡ Trailing (place (length bytes) x.1))
ended_err bytes x f e = by_test (eqb (length x.1) 0) refl e
  where
    by_test : (b : Bool) → eqb (length x.1) 0 ≡ b → cond {A = Result Tree PackError} b (Ok x.0) (Err (Trailing (place (length bytes) x.1))) ≡ Err f → (0 < length x.1) × (f ≡ Trailing (place (length bytes) x.1))
    by_test true t h = absurd cc
    by_test false t h = let some : 0 < length x.1 = grind (arith, nat_tests) in (some, cc)

start : (bytes : List ℕ) → place (length bytes) bytes ≡ 0
start bytes = omega arith

value_whole : (bytes rest : List ℕ) (v : Tree) → value_at 8 (length bytes) bytes ≡ Ok (v, rest) → whole_at 8 bytes ≡ ended bytes (v, rest)
unfolding whole_at
value_whole bytes rest v e = rw e refl

pub packs_value : (bytes : List ℕ) (v : Tree) → Packs v 0 0 bytes → value_at 8 (length bytes) bytes ≡ Ok (v, [])
packs_value bytes v h =
    let all : bytes ++ [] ≡ bytes = append-nil bytes in
    let here : place (length bytes) (bytes ++ []) ≡ 0 = rw all (start bytes) in
    let long : length (bytes ++ []) ≤ length bytes = rw all (omega arith) in
    let read = value_read v 0 8 (length bytes) bytes [] refl long (subst (λ k. Packs v 0 k bytes) (sym here) h) in
    rw all at read

pub packs_whole : (bytes : List ℕ) (v : Tree) → Packs v 0 0 bytes → whole_at 8 bytes ≡ Ok v
packs_whole bytes v h = value_whole bytes [] v (packs_value bytes v h)

pub whole_packs : (bytes : List ℕ) (v : Tree) → whole_at 8 bytes ≡ Ok v → Packs v 0 0 bytes
unfolding whole_at
whole_packs bytes v e =
    let a = bind_ok (value_at 8 (length bytes) bytes) (ended bytes) v e in
    let b = ended_ok bytes a.0 v a.2 in
    let s = value_back 8 (length bytes) 0 refl bytes a.0 (omega arith) a.1 in
    let same : bytes ≡ s.text = s.bytes_are ∙ ap (λ (t : List ℕ). s.text ++ t) b.0 ∙ append-nil s.text in
    let there : Packs v 0 (place (length bytes) bytes) s.text = subst (λ (t : Tree). Packs t 0 (place (length bytes) bytes) s.text) b.1 s.packs in
    subst (λ k. Packs v 0 k bytes) (start bytes) (subst (λ (t : List ℕ). Packs v 0 (place (length bytes) bytes) t) (sym same) there)

pub malformed_whole : (bytes : List ℕ) (f : PackError) → IsMalformed bytes f → whole_at 8 bytes ≡ Err f
unfolding whole_at
malformed_whole bytes f (breaks _ _ h) = rw (break_read 0 0 bytes f h 8 (length bytes) refl (omega arith) (omega arith)) refl
malformed_whole bytes f (trails _ _ front rest v e packs some error) =
    let lengths : length bytes ≡ length front + length rest = ap length e ∙ length-append front rest in
    let here : 0 ≡ place (length bytes) (front ++ rest) = rw (← e) (omega arith) in
    let long : length (front ++ rest) ≤ length bytes = rw (← e) (omega arith) in
    let read : value_at 8 (length bytes) bytes ≡ Ok (v, rest) = ap (value_at 8 (length bytes)) e ∙ value_read v 0 8 (length bytes) front rest refl long (subst (λ k. Packs v 0 k front) here packs) in
    let test : eqb (length rest) 0 ≡ false = grind (arith, nat_tests) in
    let there : place (length bytes) rest ≡ length front = omega arith in
    rw (read, test, there, error) refl

pub whole_malformed : (bytes : List ℕ) (f : PackError) → whole_at 8 bytes ≡ Err f → IsMalformed bytes f
unfolding whole_at
whole_malformed bytes f e =
    elim (bind_err (value_at 8 (length bytes) bytes) (ended bytes) f e) [
      | inl bad ↦ breaks bytes f (subst (λ k. Breaks 0 k bytes f) (start bytes) (value_refused 8 (length bytes) 0 refl bytes f (omega arith) bad))
      | inr a ↦
          let g = ended_err bytes a.0 f a.2 in
          let s = value_back 8 (length bytes) 0 refl bytes a.0 (omega arith) a.1 in
          let lengths : length bytes ≡ length s.text + length a.0.1 = ap length s.bytes_are ∙ length-append s.text a.0.1 in
          let there : place (length bytes) a.0.1 ≡ length s.text = omega arith in
          trails bytes f s.text a.0.1 a.0.0 s.bytes_are (subst (λ k. Packs a.0.0 0 k s.text) (start bytes) s.packs) g.0 (g.1 ∙ ap Trailing there)
    ]

-- ---- the results of a check

module _ {V : Type 0} (tree : V → Tree) (bytes : List ℕ) where
  pub check_packs : (r : Result V PackError) → Gives tree r (whole_at 8 bytes) → IfOk r (λ view. Packs (tree view) 0 0 bytes)
  check_packs (Ok x) h = whole_packs bytes (tree x) h
  check_packs (Err f) h = tt

  pub check_malformed : (r : Result V PackError) → Gives tree r (whole_at 8 bytes) → IfErr r (λ f. IsMalformed bytes f)
  check_malformed (Ok x) h = tt
  check_malformed (Err f) h = whole_malformed bytes f h

  pub check_place : (r : Result V PackError) → Gives tree r (whole_at 8 bytes) → IfErr r (λ f. error_place f ≤ length bytes)
  check_place (Ok x) h = tt
  check_place (Err f) h = malformed_within bytes f (whole_malformed bytes f h)

pub one_tree : (bytes : List ℕ) (v w : Tree) → Packs v 0 0 bytes → Packs w 0 0 bytes → v ≡ w
one_tree bytes v w h g = let e : done v ≡ done w = sym (packs_whole bytes v h) ∙ packs_whole bytes w g in cc

pub one_error : (bytes : List ℕ) (f g : PackError) → IsMalformed bytes f → IsMalformed bytes g → f ≡ g
one_error bytes f g h k = let e : refused {A = Tree} f ≡ refused {A = Tree} g = sym (malformed_whole bytes f h) ∙ malformed_whole bytes g k in cc

pub never_both : (bytes : List ℕ) (v : Tree) (f : PackError) → Packs v 0 0 bytes → IsMalformed bytes f → ⊥
never_both bytes v f h k = let e : done v ≡ refused {A = Tree} f = sym (packs_whole bytes v h) ∙ malformed_whole bytes f k in cc

module _ {V : Type 0} (tree : V → Tree) (bytes : List ℕ) where
  pub check_only : (r : Result V PackError) → Gives tree r (whole_at 8 bytes) → (v : Tree) → Packs v 0 0 bytes → IsOkAnd r (λ view. tree view ≡ v)
  check_only (Ok x) h v p = let e : done (tree x) ≡ done v = sym h ∙ packs_whole bytes v p in cc
  check_only (Err f) h v p = absurd (let e : refused {A = Tree} f ≡ done v = sym h ∙ packs_whole bytes v p in cc)

  pub check_only_error : (r : Result V PackError) → Gives tree r (whole_at 8 bytes) → (f : PackError) → IsMalformed bytes f → r ≡ Err f
  check_only_error (Ok x) h f p = absurd (let e : done (tree x) ≡ refused {A = Tree} f = sym h ∙ malformed_whole bytes f p in cc)
  check_only_error (Err g) h f p = let e : refused {A = Tree} g ≡ refused {A = Tree} f = sym h ∙ malformed_whole bytes f p in let same : g ≡ f = cc in rw same refl

-- What was handed out again, and the first line that did, after one more line.
use Rattle.serf_judge_json.proofs.Names.{Bool, Decides, List, None, Option, Some, [], ap, append_assoc, append-nil, cond, false, flat_map, is_some, list_any, nat_eq, refl, sym, true, true≢false, unwrap_or, ℕ, ◌&&◌, ◌++◌, ◌∙◌, ◌∷◌, ◌≡◌, and_from, and_parts, Decides-eqb, bytes_eq, bytes_eq-Decides, flat_map-append, none-some, option_eq, option_or, Identity, is_same, picked_after, repeats_among, Kind, LogPlaces, again_text, first_of, repeat_text, text_after}

-- Equal identities are those of the same event, or of the same query, at the same node.

ids : (a b : Option ℕ) → Decides (option_eq nat_eq a b) (a ≡ b)
ids None None = (λ _. refl, λ _. refl)
ids None (Some w) = (λ e. absurd (true≢false (sym e)), λ e. absurd (none-some w e))
ids (Some v) None = (λ e. absurd (true≢false (sym e)), λ e. absurd (none-some v (sym e)))
ids (Some v) (Some w) = (λ e. ap Some ((Decides-eqb v w).0 e), λ e. (Decides-eqb v w).1 (ap (λ u. unwrap_or u v) e))

same-decides : (x y : Identity) → Decides (is_same x y) (x ≡ y)
same-decides x y =
    let texts : Bool = bytes_eq x.name y.name && bytes_eq x.payload y.payload in
    let id : Bool = option_eq nat_eq x.id y.id in
    let time : Bool = nat_eq x.time y.time in (
      λ e.
          let a = and_parts (bytes_eq x.node y.node) (time && (id && texts)) e in
          let b = and_parts time (id && texts) a.1 in
          let d = and_parts id texts b.1 in
          let f = and_parts (bytes_eq x.name y.name) (bytes_eq x.payload y.payload) d.1 in
          let node = (bytes_eq-Decides x.node y.node).0 a.0 in
          let times = (Decides-eqb x.time y.time).0 b.0 in
          let same_id = (ids x.id y.id).0 d.0 in
          let name = (bytes_eq-Decides x.name y.name).0 f.0 in
          let payload = (bytes_eq-Decides x.payload y.payload).0 f.1 in
          λ k. record { node = node k; time = times k; id = same_id k; name = name k; payload = payload k },
      λ e.
          and_from (bytes_eq x.node y.node) (time && (id && texts)) ((bytes_eq-Decides x.node y.node).1 (ap (λ (i : Identity). i.node) e))
          (and_from time (id && texts) ((Decides-eqb x.time y.time).1 (ap (λ (i : Identity). i.time) e))
          (and_from id texts ((ids x.id y.id).1 (ap (λ (i : Identity). i.id) e))
          (and_from (bytes_eq x.name y.name) (bytes_eq x.payload y.payload) ((bytes_eq-Decides x.name y.name).1 (ap (λ (i : Identity). i.name) e))
          ((bytes_eq-Decides x.payload y.payload).1 (ap (λ (i : Identity). i.payload) e))))),
    )

-- The first line that hands out something.

first-append : (xs ys : List (ℕ × Identity)) (i : Identity) → first_of (xs ++ ys) i ≡ option_or (first_of xs i) (first_of ys i)
first-append [] ys i = refl
first-append (x ∷ xs) ys i = by (is_same i x.1) refl (first-append xs ys i)
  where
    by : (b : Bool) → is_same i x.1 ≡ b → first_of (xs ++ ys) i ≡ option_or (first_of xs i) (first_of ys i) → first_of ((x ∷ xs) ++ ys) i ≡ option_or (first_of (x ∷ xs) i) (first_of ys i)
    by true e more = rw e refl
    by false e more = rw e more

or-none : (o : Option ℕ) → option_or o None ≡ o
or-none None = refl
or-none (Some n) = refl

first-push : (lines : List (ℕ × Identity)) (line : ℕ × Identity) (i : Identity) (b : Bool) → is_same i line.1 ≡ b → first_of (lines ++ line ∷ []) i ≡ option_or (first_of lines i) (cond b (Some line.0) None)
first-push lines line i true e = first-append lines (line ∷ []) i ∙ rw e refl
first-push lines line i false e = first-append lines (line ∷ []) i ∙ rw e refl

-- a line that hands out again what the lines before it do isn't the first one
pub first-stays : (lines : List (ℕ × Identity)) (line : ℕ × Identity) (n : ℕ) (i : Identity) → first_of lines line.1 ≡ Some n → first_of lines i ≡ first_of (lines ++ line ∷ []) i
first-stays lines line n i known = by (is_same i line.1) refl
  where
    by : (b : Bool) → is_same i line.1 ≡ b → first_of lines i ≡ first_of (lines ++ line ∷ []) i
    by false e = sym (first-push lines line i false e ∙ or-none (first_of lines i))
    by true e =
        let is : first_of lines i ≡ Some n = ap (first_of lines) ((same-decides i line.1).0 e) ∙ known in
        is ∙ sym (first-push lines line i true e ∙ ap (λ o. option_or o (Some line.0)) is)

-- and one that doesn't is
pub first-new : (lines : List (ℕ × Identity)) (line : ℕ × Identity) (i : Identity) → first_of lines line.1 ≡ None → cond (is_same line.1 i) (Some line.0) (first_of lines i) ≡ first_of (lines ++ line ∷ []) i
first-new lines line i unknown = by (is_same line.1 i) refl
  where
    by : (b : Bool) → is_same line.1 i ≡ b → cond b (Some line.0) (first_of lines i) ≡ first_of (lines ++ line ∷ []) i
    by true e =
        let there : line.1 ≡ i = (same-decides line.1 i).0 e in
        let is : first_of lines i ≡ None = ap (first_of lines) (sym there) ∙ unknown in
        sym (first-push lines line i true ((same-decides i line.1).1 (sym there)) ∙ ap (λ o. option_or o (Some line.0)) is)
    by false e = sym (first-push lines line i false (apart (is_same i line.1) refl) ∙ or-none (first_of lines i))
      where
        apart : (b : Bool) → is_same i line.1 ≡ b → is_same i line.1 ≡ false
        apart false h = h
        apart true h = absurd (true≢false (sym ((same-decides line.1 i).1 (sym ((same-decides i line.1).0 h))) ∙ e))

-- The lines that hand out something again.

picked-push : {X : Type 0} (keep : Bool → Bool) (eq : X → X → Bool) (before xs : List X) (x : X)
    → picked_after keep eq before (xs ++ x ∷ []) ≡ picked_after keep eq before xs ++ cond (keep (list_any (eq x) (before ++ xs))) (x ∷ []) []
picked-push keep eq before [] x = simp append-nil
picked-push keep eq before (y ∷ ys) x = rw (picked-push keep eq (before ++ y ∷ []) ys x) (simp append_assoc)

any-first : (lines : List (ℕ × Identity)) (i : Identity) → list_any (λ line. is_same i line.1) lines ≡ is_some (first_of lines i)
any-first [] i = refl
any-first (x ∷ xs) i = by (is_same i x.1) refl (any-first xs i)
  where
    by : (b : Bool) → is_same i x.1 ≡ b → list_any (λ line. is_same i line.1) xs ≡ is_some (first_of xs i) → list_any (λ line. is_same i line.1) (x ∷ xs) ≡ is_some (first_of (x ∷ xs) i)
    by true e more = rw e refl
    by false e more = rw e more

-- the text about a line that repeats another
abbrev pub text_in : LogPlaces → Kind → List (ℕ × Identity) → ℕ × Identity → List ℕ
text_in places kind all line = repeat_text places kind line (unwrap_or (first_of all line.1) 0)

one-more : (places : LogPlaces) (kind : Kind) (xs ys : List (ℕ × Identity)) (x : ℕ × Identity)
    → flat_map (text_in places kind (xs ++ ys)) (cond (list_any (λ y. is_same x.1 y.1) xs) (x ∷ []) []) ≡ again_text places kind xs x
one-more places kind xs ys x = by (first_of xs x.1) refl
  where
    by : (o : Option ℕ) → first_of xs x.1 ≡ o → flat_map (text_in places kind (xs ++ ys)) (cond (list_any (λ y. is_same x.1 y.1) xs) (x ∷ []) []) ≡ again_text places kind xs x
    by None e = ap (λ b. flat_map (text_in places kind (xs ++ ys)) (cond b (x ∷ []) [])) (any-first xs x.1 ∙ ap is_some e) ∙ sym (ap (text_after places kind x) e)
    by (Some n) e =
        ap (λ b. flat_map (text_in places kind (xs ++ ys)) (cond b (x ∷ []) [])) (any-first xs x.1 ∙ ap is_some e)
        ∙ append-nil (text_in places kind (xs ++ ys) x)
        ∙ ap (λ o. repeat_text places kind x (unwrap_or o 0)) (first-append xs ys x.1 ∙ ap (λ o. option_or o (first_of ys x.1)) e)
        ∙ sym (ap (text_after places kind x) e)

-- one more line was written, if it repeats an earlier one
pub repeats-more : (places : LogPlaces) (kind : Kind) (all xs ys : List (ℕ × Identity)) (x : ℕ × Identity) → all ≡ xs ++ ys
    → flat_map (text_in places kind all) (repeats_among xs) ++ again_text places kind xs x ≡ flat_map (text_in places kind all) (repeats_among (xs ++ x ∷ []))
repeats-more places kind all xs ys x is =
    let f = text_in places kind all in
    let here = ap (λ l. flat_map (text_in places kind l) (cond (list_any (λ y. is_same x.1 y.1) xs) (x ∷ []) [])) is ∙ one-more places kind xs ys x in
    sym (
    ap (flat_map f) (picked-push (λ b. b) (λ (y z : ℕ × Identity). is_same y.1 z.1) [] xs x)
    ∙ flat_map-append f (repeats_among xs) (cond (list_any (λ y. is_same x.1 y.1) xs) (x ∷ []) [])
    ∙ ap (λ t. flat_map f (repeats_among xs) ++ t) here
    )

pub repeats-step : (places : LogPlaces) (kind : Kind) (all xs ys : List (ℕ × Identity)) (x handed : ℕ × Identity) (start old new : List ℕ) → all ≡ xs ++ ys → handed ≡ x
    → old ≡ start ++ flat_map (text_in places kind all) (repeats_among xs) → new ≡ old ++ again_text places kind xs handed → new ≡ start ++ flat_map (text_in places kind all) (repeats_among (xs ++ x ∷ []))
repeats-step places kind all xs ys x handed start old new is same before step =
    let f = text_in places kind all in
    step ∙ (λ k. before k ++ again_text places kind xs (same k))
    ∙ append_assoc start (flat_map f (repeats_among xs)) (again_text places kind xs x)
    ∙ ap (λ t. start ++ t) (repeats-more places kind all xs ys x is)

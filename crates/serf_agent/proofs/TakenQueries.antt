-- Due queries are moved out of a list one after another, and each is replaced by a query with the same deadline.
use Rattle.serf_agent.proofs.Names.{Bool, IfSome, List, Option, Some, [], ap, append-nil, arith, cond, drop, false, filter, get_or, inl, inr, length, length-append, map, nat_lt, not, refl, subst, suc, sym, take, true, zero, ℕ, ◌++◌, ◌+◌, ◌<◌, ◌∙◌, ◌∷◌, ◌≡◌, add-one, drop_more_same, get_or-drop, take-append-drop, filter-append, filter_more, get_or_from_slice_get, slice_get_cases, slice_get_within, slice_get, set_value_at, IsTaken, is_due, OpenQuery}

-- writing a value at an index preserves the length, what follows the index, and the elements that pass a test, if the
-- old and the new value both fail it
length-set : {K X : Type 0} (es : List (K × X)) (i : ℕ) (w : X) → length (set_value_at es i w) ≡ length es
length-set [] i w = refl
length-set (e ∷ es) zero w = refl
length-set (e ∷ es) (suc i) w = ap suc (length-set es i w)

drop-set : {K X : Type 0} (es : List (K × X)) (i : ℕ) (w : X) → drop (suc i) (set_value_at es i w) ≡ drop (suc i) es
drop-set [] i w = refl
drop-set (e ∷ es) zero w = refl
drop-set (e ∷ es) (suc i) w = drop-set es i w

filter-set : {K X : Type 0} (p : K × X → Bool) (es : List (K × X)) (i : ℕ) (w : X) (q : K × X) → slice_get es i ≡ Some q → p q ≡ false → p (q.0, w) ≡ false → filter p (set_value_at es i w) ≡ filter p es
filter-set p [] i w q at old new = refl
filter-set {K} {X} p (e ∷ es) zero w q at old new =
    let is : e ≡ q = cc in
    let before : p e ≡ false = ap p is ∙ old in
    let after : p (e.0, w) ≡ false = ap (λ (x : K × X). p (x.0, w)) is ∙ new in
    rw (before, after) refl
filter-set {K} {X} p (e ∷ es) (suc i) w q at old new = ap (λ (l : List (K × X)). cond (p e) (e ∷ l) l) (filter-set p es i w q at old new)

-- if two lists are the same from an index on, they have the same item at this index
same-at : {X : Type 0} (i : ℕ) (xs ys : List X) (d : X) → drop i xs ≡ drop i ys → get_or xs i d ≡ get_or ys i d
same-at {X} i xs ys d is =
    let here : (l : List X) → get_or (drop i l) 0 d ≡ get_or l i d = λ l. get_or-drop i l 0 d ∙ ap (λ n. get_or l n d) (omega arith) in
    sym (here xs) ∙ ap (λ (l : List X). get_or l 0 d) is ∙ here ys

-- the queries before an index are done: the due ones are taken out, and the others are unchanged
pub record Taking (now : ℕ) (old new closed : List (ℕ × OpenQuery)) (i : ℕ) : Type 0 where
  pub rest : drop i new ≡ drop i old
  pub long : length new ≡ length old
  pub others : filter (λ q. not (is_due now q)) new ≡ filter (λ q. not (is_due now q)) old
  pub taken : closed ≡ filter (is_due now) (take i old)

pub taking-none : (now : ℕ) (old : List (ℕ × OpenQuery)) → Taking now old old [] 0
taking-none now old = record { rest = refl; long = refl; others = refl; taken = refl }

-- a query that isn't due is passed over
pub taking-next : (now : ℕ) (old new closed : List (ℕ × OpenQuery)) (i : ℕ) → i < length old → Taking now old new closed i → IfSome (slice_get new i) (λ q. is_due now q ≡ false) → Taking now old new closed (i + 1)
taking-next now old new closed i within t none = elim (slice_get_cases new i).1 [
  | inl w ↦ by w.0 w.2 (subst (λ (o : Option (ℕ × OpenQuery)). IfSome o (λ q. is_due now q ≡ false)) w.2 none)
  | inr w ↦ absurd (omega (arith, t.long, w.0, within))
]
  where
    by : (q : ℕ × OpenQuery) → slice_get new i ≡ Some q → is_due now q ≡ false → Taking now old new closed (i + 1)
    by q is none =
        let at : get_or old i q ≡ q = sym (same-at i new old q t.rest) ∙ get_or_from_slice_get new i q q is in
        let more : filter (is_due now) (take (i + 1) old) ≡ filter (is_due now) (take i old) ++ [] = filter_more (is_due now) old i q within ∙ rw (at, none) refl in
        record {
          rest = drop_more_same new old i t.rest;
          long = t.long;
          others = t.others;
          taken = t.taken ∙ sym (more ∙ append-nil (filter (is_due now) (take i old)));
        }

-- a due query is taken out
pub taking-one : (now : ℕ) (old new more closed : List (ℕ × OpenQuery)) (i : ℕ) (q : ℕ × OpenQuery) → Taking now old new closed i → IsTaken now i q new more → Taking now old more (closed ++ q ∷ []) (i + 1)
taking-one now old new more closed i q t one =
    let within : i < length old = omega (arith, t.long, slice_get_within new i q one.was) in
    let at : get_or old i q ≡ q = sym (same-at i new old q t.rest) ∙ get_or_from_slice_get new i q q one.was in
    let grown : filter (is_due now) (take (i + 1) old) ≡ filter (is_due now) (take i old) ++ q ∷ [] = filter_more (is_due now) old i q within ∙ rw (at, one.due) refl in
    let following : drop (i + 1) more ≡ drop (i + 1) new = ap (drop (i + 1)) one.is ∙ subst (λ n. drop n (set_value_at new i one.left) ≡ drop n new) (sym (add-one i)) (drop-set new i one.left) in
    let late : is_due now (q.0, one.left) ≡ true = ap (λ n. nat_lt n now) one.same ∙ one.due in
    record {
      rest = following ∙ drop_more_same new old i t.rest;
      long = ap (λ (l : List (ℕ × OpenQuery)). length l) one.is ∙ length-set new i one.left ∙ t.long;
      others = ap (filter (λ (p : ℕ × OpenQuery). not (is_due now p))) one.is ∙ filter-set (λ (p : ℕ × OpenQuery). not (is_due now p)) new i one.left q one.was (ap not one.due) (ap not late) ∙ t.others;
      taken = ap (λ (l : List (ℕ × OpenQuery)). l ++ q ∷ []) t.taken ∙ sym grown;
    }

-- one more due query fits into the result, because there is room for all that are due
pub taking-room : (now : ℕ) (old new closed : List (ℕ × OpenQuery)) (i : ℕ) (q : ℕ × OpenQuery) → Taking now old new closed i → slice_get new i ≡ Some q → is_due now q ≡ true → length closed < length (filter (is_due now) old)
taking-room now old new closed i q t was due =
    let within : i < length old = omega (arith, t.long, slice_get_within new i q was) in
    let at : get_or old i q ≡ q = sym (same-at i new old q t.rest) ∙ get_or_from_slice_get new i q q was in
    let grown : filter (is_due now) (take (i + 1) old) ≡ filter (is_due now) (take i old) ++ q ∷ [] = filter_more (is_due now) old i q within ∙ rw (at, due) refl in
    let all : filter (is_due now) old ≡ filter (is_due now) (take (i + 1) old) ++ filter (is_due now) (drop (i + 1) old) = ap (filter (is_due now)) (sym (take-append-drop (i + 1) old)) ∙ filter-append (is_due now) (take (i + 1) old) (drop (i + 1) old) in
    let count = ap (λ (l : List (ℕ × OpenQuery)). length l) all ∙ length-append (filter (is_due now) (take (i + 1) old)) (filter (is_due now) (drop (i + 1) old)) in
    let one = ap (λ (l : List (ℕ × OpenQuery)). length l) grown ∙ length-append (filter (is_due now) (take i old)) (q ∷ []) in
    let so_far = ap (λ (l : List (ℕ × OpenQuery)). length l) t.taken in
    omega (arith, count, one, so_far)

-- the due queries are counted without their times
pub count-due : (now : ℕ) (old : List (ℕ × OpenQuery)) → length (filter (λ q. nat_lt q.deadline now) (map (λ q. q.1) old)) ≡ length (filter (is_due now) old)
count-due now [] = refl
count-due now (q ∷ old) = by (nat_lt q.1.deadline now) (count-due now old)
  where
    by : (b : Bool) → length (filter (λ p. nat_lt p.deadline now) (map (λ p. p.1) old)) ≡ length (filter (is_due now) old)
        → length (cond b (q.1 ∷ filter (λ p. nat_lt p.deadline now) (map (λ p. p.1) old)) (filter (λ p. nat_lt p.deadline now) (map (λ p. p.1) old))) ≡ length (cond b (q ∷ filter (is_due now) old) (filter (is_due now) old))
    by true ih = ap suc ih
    by false ih = ih

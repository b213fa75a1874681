-- Windows that are filled again after a restart: what is known of each entry that was kept.
use Rattle.serf_window.proofs.Names.{Bool, List, [], ap, arith, cond, false, inl, inr, nat_le, refl, subst, sym, true, ℕ, ◌++◌, ◌+◌, ◌==◌, ◌∙◌, ◌∷◌, ◌≡◌, ◌≤◌, and_from, eq-eqb, ltb-true, or_parts, true≢false, append_assoc, All-cons, All-contains_itself, All-head, All-nil, All-tail, All-weaker, Contains-append_cases, Contains-append_left, Contains-append_right, list_any-append, all_pairs_push, All, Contains, AllPairs, nat_lt, ◌&&◌, ◌||◌, IsRecalled, RecallLaws, Recalled, recalled, recalled_by, recalled_one, TimedEntry, count_at, verdict_of, was_entered, Verdict, BelowMinimum, New, Seen, TimeFull, TooOld}
use Rattle.std.specs.Prelude.{◌≢◌, ◌<◌}

append_nil : {A : Type 0} (xs : List A) → xs ++ [] ≡ xs
append_nil [] = refl
append_nil {A} (x ∷ xs) = ap (λ (l : List A). x ∷ l) (append_nil xs)

or_left : (a b : Bool) → a ≡ true → (a || b) ≡ true
or_left true b h = refl
or_left false b h = absurd (cc h)

or_right : (a b : Bool) → b ≡ true → (a || b) ≡ true
or_right true b h = refl
or_right false b h = h

-- what has entered still has after one more entry, and so has this one
entered-more : {K : Type 0} (same : K → K → Bool) (es : List (TimedEntry K)) (d : TimedEntry K) (t : ℕ) (what : K) → was_entered same es t what ≡ true → was_entered same (es ++ d ∷ []) t what ≡ true
entered-more {K} same es d t what h =
    list_any-append (λ (e : TimedEntry K). (e.time == t) && same e.key what) es (d ∷ [])
    ∙ or_left (was_entered same es t what) (was_entered same (d ∷ []) t what) h

entered-last : {K : Type 0} (same : K → K → Bool) (es : List (TimedEntry K)) (e : TimedEntry K) → same e.key e.key ≡ true → was_entered same (es ++ e ∷ []) e.time e.key ≡ true
entered-last {K} same es e own =
    let here : ((e.time == e.time) && same e.key e.key) ≡ true = and_from (e.time == e.time) (same e.key e.key) (eq-eqb e.time e.time refl) own in
    list_any-append (λ (d : TimedEntry K). (d.time == e.time) && same d.key e.key) es (e ∷ [])
    ∙ or_right (was_entered same es e.time e.key) (was_entered same (e ∷ []) e.time e.key) (first ((e.time == e.time) && same e.key e.key) here)
  where
    first : (b : Bool) → b ≡ true → (b || false) ≡ true
    first true h = refl
    first false h = absurd (cc h)

-- ---- one entry

minimum-by : {K : Type 0} (v : Verdict) (r : Recalled K) (e : TimedEntry K) → r.minimum ≤ (recalled_by v r e).minimum
minimum-by New r e = omega arith
minimum-by TimeFull r e = omega arith
minimum-by Seen r e = omega arith
minimum-by TooOld r e = omega arith
minimum-by BelowMinimum r e = omega arith

bounded-by : {K : Type 0} (v : Verdict) (clock : ℕ) (r : Recalled K) (e : TimedEntry K) → r.minimum ≤ clock → e.time < clock → (recalled_by v r e).minimum ≤ clock
bounded-by New clock r e up below = up
bounded-by TimeFull clock r e up below = omega arith
bounded-by Seen clock r e up below = up
bounded-by TooOld clock r e up below = up
bounded-by BelowMinimum clock r e up below = up

entered-by : {K : Type 0} (same : K → K → Bool) (v : Verdict) (r : Recalled K) (d : TimedEntry K) (t : ℕ) (what : K) → was_entered same r.entries t what ≡ true → was_entered same (recalled_by v r d).entries t what ≡ true
entered-by same New r d t what h = entered-more same r.entries d t what h
entered-by same TimeFull r d t what h = h
entered-by same Seen r d t what h = h
entered-by same TooOld r d t what h = h
entered-by same BelowMinimum r d t what h = h

stays-one : {K : Type 0} (same : K → K → Bool) (n clock : ℕ) (v : Verdict) (r : Recalled K) (d e : TimedEntry K) → IsRecalled same n clock r e → IsRecalled same n clock (recalled_by v r d) e
stays-one same n clock v r d e (inl low) = let up : r.minimum ≤ (recalled_by v r d).minimum = minimum-by v r d in inl (omega arith)
stays-one same n clock v r d e (inr (inl old)) = inr (inl old)
stays-one same n clock v r d e (inr (inr held)) = inr (inr (entered-by same v r d e.time e.key held))

known-one : {K : Type 0} (same : K → K → Bool) (n k clock : ℕ) (r : Recalled K) (e : TimedEntry K) → same e.key e.key ≡ true → IsRecalled same n clock (recalled_one same n k clock r e) e
known-one {K} same n k clock r e own =
    by (nat_lt e.time r.minimum) (nat_lt (e.time + n) clock) (was_entered same r.entries e.time e.key) (nat_le k (count_at r.entries e.time)) refl refl refl
  where
    by : (low old seen full : Bool) → nat_lt e.time r.minimum ≡ low → nat_lt (e.time + n) clock ≡ old → was_entered same r.entries e.time e.key ≡ seen
        → IsRecalled same n clock (recalled_by (cond low BelowMinimum (cond old TooOld (cond seen Seen (cond full TimeFull New)))) r e) e
    by true old seen full is_low is_old is_seen = inl (ltb-true e.time r.minimum is_low)
    by false true seen full is_low is_old is_seen = inr (inl (ltb-true (e.time + n) clock is_old))
    by false false true full is_low is_old is_seen = inr (inr is_seen)
    by false false false true is_low is_old is_seen = inl (omega arith)
    by false false false false is_low is_old is_seen = inr (inr (entered-last same r.entries e own))

kept-skip : {K : Type 0} (before : List (TimedEntry K)) (e : TimedEntry K) (rest : List (TimedEntry K)) (x : TimedEntry K) → Contains (before ++ rest) x → Contains (before ++ e ∷ rest) x
kept-skip {K} before e rest x h = elim (Contains-append_cases before rest x h) [
  | inl left ↦ Contains-append_left before (e ∷ rest) x left
  | inr right ↦ Contains-append_right before (e ∷ rest) x (Contains-append_right (e ∷ []) rest x right)
]

kept-by : {K : Type 0} (v : Verdict) (r : Recalled K) (e : TimedEntry K) (rest : List (TimedEntry K)) (x : TimedEntry K) → Contains ((recalled_by v r e).entries ++ rest) x → Contains (r.entries ++ e ∷ rest) x
kept-by {K} New r e rest x h = subst (λ (l : List (TimedEntry K)). Contains l x) (append_assoc r.entries (e ∷ []) rest) h
kept-by TimeFull r e rest x h = kept-skip r.entries e rest x h
kept-by Seen r e rest x h = kept-skip r.entries e rest x h
kept-by TooOld r e rest x h = kept-skip r.entries e rest x h
kept-by BelowMinimum r e rest x h = kept-skip r.entries e rest x h

-- an entry that has never entered differs from each one that has
fresh : {K : Type 0} (same : K → K → Bool) (es : List (TimedEntry K)) (e : TimedEntry K) → same e.key e.key ≡ true → was_entered same es e.time e.key ≡ false → All (λ d. d ≢ e) es
fresh {K} same [] e own h = All-nil (λ (d : TimedEntry K). d ≢ e)
fresh {K} same (d ∷ es) e own h =
    let parts = or_parts ((d.time == e.time) && same d.key e.key) (was_entered same es e.time e.key) h in
    let is_it : TimedEntry K → Bool = λ y. (y.time == e.time) && same y.key e.key in
    All-cons (λ (x : TimedEntry K). x ≢ e) d es (λ q. true≢false (sym (and_from (e.time == e.time) (same e.key e.key) (eq-eqb e.time e.time refl) own) ∙ (sym (ap is_it q) ∙ parts.0)))
    (fresh same es e own parts.1)

distinct-one : {K : Type 0} (same : K → K → Bool) (n k clock : ℕ) (r : Recalled K) (e : TimedEntry K) → same e.key e.key ≡ true → AllPairs (λ x y. x ≢ y) r.entries → AllPairs (λ x y. x ≢ y) (recalled_one same n k clock r e).entries
distinct-one {K} same n k clock r e own apart =
    by (nat_lt e.time r.minimum) (nat_lt (e.time + n) clock) (was_entered same r.entries e.time e.key) (nat_le k (count_at r.entries e.time)) refl
  where
    by : (low old seen full : Bool) → was_entered same r.entries e.time e.key ≡ seen
        → AllPairs (λ x y. x ≢ y) (recalled_by (cond low BelowMinimum (cond old TooOld (cond seen Seen (cond full TimeFull New)))) r e).entries
    by true old seen full is_seen = apart
    by false true seen full is_seen = apart
    by false false true full is_seen = apart
    by false false false true is_seen = apart
    by false false false false is_seen = all_pairs_push (λ (x y : TimedEntry K). x ≢ y) r.entries e apart (fresh same r.entries e own is_seen)

-- ---- all of them

distinct-all : {K : Type 0} (same : K → K → Bool) (n k clock : ℕ) (r : Recalled K) (es : List (TimedEntry K)) → ((a : K) → same a a ≡ true) → AllPairs (λ x y. x ≢ y) r.entries → AllPairs (λ x y. x ≢ y) (recalled same n k clock r es).entries
distinct-all same n k clock r [] own apart = apart
distinct-all same n k clock r (e ∷ es) own apart = distinct-all same n k clock (recalled_one same n k clock r e) es own (distinct-one same n k clock r e (own e.key) apart)

minimum-all : {K : Type 0} (same : K → K → Bool) (n k clock : ℕ) (r : Recalled K) (es : List (TimedEntry K)) → r.minimum ≤ (recalled same n k clock r es).minimum
minimum-all same n k clock r [] = omega arith
minimum-all same n k clock r (e ∷ es) =
    let one : r.minimum ≤ (recalled_one same n k clock r e).minimum = minimum-by (verdict_of same n k r.entries clock r.minimum e.time e.key) r e in
    let more : (recalled_one same n k clock r e).minimum ≤ (recalled same n k clock (recalled_one same n k clock r e) es).minimum = minimum-all same n k clock (recalled_one same n k clock r e) es in
    omega arith

bounded-all : {K : Type 0} (same : K → K → Bool) (n k clock : ℕ) (r : Recalled K) (es : List (TimedEntry K)) → r.minimum ≤ clock → All (λ e. e.time < clock) es → (recalled same n k clock r es).minimum ≤ clock
bounded-all same n k clock r [] up below = up
bounded-all {K} same n k clock r (e ∷ es) up below =
    let one = bounded-by (verdict_of same n k r.entries clock r.minimum e.time e.key) clock r e up (All-head (λ (x : TimedEntry K). x.time < clock) e es below) in
    bounded-all same n k clock (recalled_one same n k clock r e) es one (All-tail (λ (x : TimedEntry K). x.time < clock) e es below)

stays-all : {K : Type 0} (same : K → K → Bool) (n k clock : ℕ) (r : Recalled K) (es : List (TimedEntry K)) (e : TimedEntry K) → IsRecalled same n clock r e → IsRecalled same n clock (recalled same n k clock r es) e
stays-all same n k clock r [] e h = h
stays-all same n k clock r (d ∷ es) e h =
    stays-all same n k clock (recalled_one same n k clock r d) es e (stays-one same n clock (verdict_of same n k r.entries clock r.minimum d.time d.key) r d e h)

known-all : {K : Type 0} (same : K → K → Bool) (n k clock : ℕ) (r : Recalled K) (es : List (TimedEntry K)) → ((a : K) → same a a ≡ true) → All (IsRecalled same n clock (recalled same n k clock r es)) es
known-all same n k clock r [] own = All-nil (IsRecalled same n clock r)
known-all same n k clock r (e ∷ es) own =
    All-cons (IsRecalled same n clock (recalled same n k clock (recalled_one same n k clock r e) es)) e es
    (stays-all same n k clock (recalled_one same n k clock r e) es e (known-one same n k clock r e (own e.key)))
    (known-all same n k clock (recalled_one same n k clock r e) es own)

kept-all : {K : Type 0} (same : K → K → Bool) (n k clock : ℕ) (r : Recalled K) (es : List (TimedEntry K)) → All (λ e. Contains (r.entries ++ es) e) (recalled same n k clock r es).entries
kept-all {K} same n k clock r [] = subst (λ (l : List (TimedEntry K)). All (Contains l) r.entries) (sym (append_nil r.entries)) (All-contains_itself r.entries)
kept-all {K} same n k clock r (e ∷ es) =
    All-weaker (λ x. Contains ((recalled_one same n k clock r e).entries ++ es) x) (λ x. Contains (r.entries ++ e ∷ es) x) (λ x h. kept-by (verdict_of same n k r.entries clock r.minimum e.time e.key) r e es x h)
    (recalled same n k clock (recalled_one same n k clock r e) es).entries (kept-all same n k clock (recalled_one same n k clock r e) es)

pub recall_laws : (K : Type 0) → RecallLaws K
recall_laws K = record {
  all_known = known-all;
  only_kept = kept-all;
  minimum = minimum-all;
  bounded = bounded-all;
  distinct = distinct-all;
}

-- The place of the query with a number among those that wait, and what is left without this query.
use Rattle.serf_agent_c.proofs.Names.{Bool, Err, List, None, Ok, Option, Result, Some, [], ap, arith, cond, false, filter, get_or, length, not, refl, slice_index_or, suc, sym, true, zero, ℕ, ◌++◌, ◌+◌, ◌<◌, ◌==◌, ◌∙◌, ◌∷◌, ◌≡◌, ◌≢◌, ◌≤◌, eq-eqb, eqb-true, leb-true, ltb-false, ltb-true, nat_tests, ranked, All-head, All-tail, filter_passes, IsNonDecreasingBy-from_default, get_or_from_slice_get, insert, position, position_or_len, remove, IsBinarySearchResult, IsNonDecreasingBy, IsSearchInRange, nat_cmp, ordering_index, All, AllPairs, nat_lt, slice_get, result_ok, DeliveredQuery, respond_error, response_packet, Reply, RespondError, replied_as, reply_of, Numbered, left_without, waiting_at, with_handed}
use Rattle.std.specs.Prelude.{nat_le}
use Rattle.serf_agent_c.proofs.HandedOnce.{weaker}

abbrev has : ℕ → ℕ × DeliveredQuery → Bool
has number w = w.0 == number

abbrev place : ℕ → List (ℕ × DeliveredQuery) → ℕ
place number ws = position_or_len (has number) ws

pub record IsThere (number : ℕ) (ws : List (ℕ × DeliveredQuery)) (i : ℕ) : Type 0 where
  pub query : DeliveredQuery
  pub found : waiting_at number ws ≡ Some query
  pub at : slice_get ws i ≡ Some (number, query)
  pub left : remove ws i ≡ left_without number ws
  pub within : i < length ws

pub record IsNowhere (number : ℕ) (ws : List (ℕ × DeliveredQuery)) : Type 0 where
  pub none : waiting_at number ws ≡ None
  pub left : left_without number ws ≡ ws

there : (number : ℕ) (ws : List (ℕ × DeliveredQuery)) → place number ws < length ws → IsThere number ws (place number ws)
there number [] low = absurd (omega (arith, low))
there number ((n, q) ∷ ws) low = by (n == number) refl (λ low. there number ws low)
  where
    by : (b : Bool) → (n == number) ≡ b → (place number ws < length ws → IsThere number ws (place number ws)) → IsThere number ((n, q) ∷ ws) (place number ((n, q) ∷ ws))
    by true same next = record {
      query = q;
      found = ap (λ (b : Bool). cond b (Some q) (waiting_at number ws)) same;
      at = ap (λ (b : Bool). slice_get ((n, q) ∷ ws) (cond (not b) (1 + place number ws) 0)) same ∙ ap (λ (k : ℕ). Some (k, q)) (eqb-true n number same);
      left = ap (λ (b : Bool). remove ((n, q) ∷ ws) (cond (not b) (1 + place number ws) 0)) same ∙ sym (ap (λ (b : Bool). cond b ws ((n, q) ∷ left_without number ws)) same);
      within = low;
    }
    by false other next =
        let at : place number ((n, q) ∷ ws) ≡ suc (place number ws) = ap (λ (b : Bool). cond (not b) (1 + place number ws) 0) other ∙ omega arith in
        let r = next (omega (arith, low, at)) in
        record {
          query = r.query;
          found = ap (λ (b : Bool). cond b (Some q) (waiting_at number ws)) other ∙ r.found;
          at = ap (λ (k : ℕ). slice_get ((n, q) ∷ ws) k) at ∙ r.at;
          left = ap (λ (k : ℕ). remove ((n, q) ∷ ws) k) at ∙ ap (λ (l : List (ℕ × DeliveredQuery)). (n, q) ∷ l) r.left ∙ sym (ap (λ (b : Bool). cond b ws ((n, q) ∷ left_without number ws)) other);
          within = low;
        }

nowhere : (number : ℕ) (ws : List (ℕ × DeliveredQuery)) → length ws ≤ place number ws → IsNowhere number ws
nowhere number [] high = record { none = refl; left = refl }
nowhere number ((n, q) ∷ ws) high = by (n == number) refl (λ high. nowhere number ws high)
  where
    by : (b : Bool) → (n == number) ≡ b → (length ws ≤ place number ws → IsNowhere number ws) → IsNowhere number ((n, q) ∷ ws)
    by true same next =
        let at : place number ((n, q) ∷ ws) ≡ 0 = ap (λ (b : Bool). cond (not b) (1 + place number ws) 0) same in
        absurd (omega (arith, high, at))
    by false other next =
        let at : place number ((n, q) ∷ ws) ≡ suc (place number ws) = ap (λ (b : Bool). cond (not b) (1 + place number ws) 0) other ∙ omega arith in
        let r = next (omega (arith, high, at)) in
        record {
          none = ap (λ (b : Bool). cond b (Some q) (waiting_at number ws)) other ∙ r.none;
          left = ap (λ (b : Bool). cond b ws ((n, q) ∷ left_without number ws)) other ∙ ap (λ (l : List (ℕ × DeliveredQuery)). (n, q) ∷ l) r.left;
        }

pub place-some : (number : ℕ) (ws : List (ℕ × DeliveredQuery)) (i : ℕ) → position (λ w. w.0 == number) ws ≡ Some i → IsThere number ws i
place-some number ws i is = by (nat_lt (place number ws) (length ws)) refl
  where
    by : (b : Bool) → nat_lt (place number ws) (length ws) ≡ b → IsThere number ws i
    by true low =
        let found : Some (place number ws) ≡ Some i = sym (ap (λ (b : Bool). cond b (Some (place number ws)) None) low) ∙ is in
        let same : place number ws ≡ i = cc found in
        rw (← same) (there number ws (ltb-true (place number ws) (length ws) low))
    by false high = let no : None ≡ Some i = sym (ap (λ (b : Bool). cond b (Some (place number ws)) None) high) ∙ is in cc

pub place-none : (number : ℕ) (ws : List (ℕ × DeliveredQuery)) → position (λ w. w.0 == number) ws ≡ None → IsNowhere number ws
place-none number ws is = by (nat_lt (place number ws) (length ws)) refl
  where
    by : (b : Bool) → nat_lt (place number ws) (length ws) ≡ b → IsNowhere number ws
    by true low = let no : Some (place number ws) ≡ None = sym (ap (λ (b : Bool). cond b (Some (place number ws)) None) low) ∙ is in cc
    by false high = nowhere number ws (ltb-false (place number ws) (length ws) high)

-- what was taken out is put back
pub put-back : (ws : List (ℕ × DeliveredQuery)) (i : ℕ) (w : ℕ × DeliveredQuery) → slice_get ws i ≡ Some w → insert (remove ws i) i w ≡ ws
put-back [] i w at = cc
put-back (x ∷ ws) zero w at = let same : w ≡ x = cc at in ap (λ (y : ℕ × DeliveredQuery). y ∷ ws) same
put-back (x ∷ ws) (suc i) w at = ap (λ (l : List (ℕ × DeliveredQuery)). x ∷ l) (put-back ws i w at)

-- The query that isn't among the others yet has the next number.
pub next-is-nowhere : (handed : ℕ) (ws : List (ℕ × DeliveredQuery)) → All (λ w. w.0 ≤ handed) ws → waiting_at (handed + 1) ws ≡ None
next-is-nowhere handed [] below = refl
next-is-nowhere handed ((n, q) ∷ ws) below = by (n == handed + 1) refl (next-is-nowhere handed ws (All-tail (λ (w : ℕ × DeliveredQuery). w.0 ≤ handed) (n, q) ws below))
  where
    by : (b : Bool) → (n == handed + 1) ≡ b → waiting_at (handed + 1) ws ≡ None → waiting_at (handed + 1) ((n, q) ∷ ws) ≡ None
    by true same next =
        let low : n ≤ handed = All-head (λ (w : ℕ × DeliveredQuery). w.0 ≤ handed) (n, q) ws below in
        let is : n ≡ handed + 1 = eqb-true n (handed + 1) same in
        absurd (omega (arith, low, is))
    by false other next = ap (λ (b : Bool). cond b (Some q) (waiting_at (handed + 1) ws)) other ∙ next

pub last-is-there : (number : ℕ) (query : DeliveredQuery) (ws : List (ℕ × DeliveredQuery)) → waiting_at number ws ≡ None → waiting_at number (ws ++ (number, query) ∷ []) ≡ Some query
last-is-there number query [] none = ap (λ (b : Bool). cond b (Some query) None) (eq-eqb number number refl)
last-is-there number query ((n, q) ∷ ws) none = by (n == number) refl (λ rest. last-is-there number query ws rest)
  where
    by : (b : Bool) → (n == number) ≡ b → (waiting_at number ws ≡ None → waiting_at number (ws ++ (number, query) ∷ []) ≡ Some query) → waiting_at number ((n, q) ∷ ws ++ (number, query) ∷ []) ≡ Some query
    by true same next = let no : Some q ≡ None = sym (ap (λ (b : Bool). cond b (Some q) (waiting_at number ws)) same) ∙ none in cc
    by false other next =
        let rest : waiting_at number ws ≡ None = sym (ap (λ (b : Bool). cond b (Some q) (waiting_at number ws)) other) ∙ none in
        ap (λ (b : Bool). cond b (Some q) (waiting_at number (ws ++ (number, query) ∷ []))) other ∙ next rest

pub others-stay : (number last : ℕ) (query : DeliveredQuery) (ws : List (ℕ × DeliveredQuery)) → last ≢ number → waiting_at number (ws ++ (last, query) ∷ []) ≡ waiting_at number ws
others-stay number last query [] other = by (last == number) refl
  where
    by : (b : Bool) → (last == number) ≡ b → waiting_at number ((last, query) ∷ []) ≡ None
    by true same = absurd (other (eqb-true last number same))
    by false is = ap (λ (b : Bool). cond b (Some query) None) is
others-stay number last query ((n, q) ∷ ws) other = ap (λ (o : Option DeliveredQuery). cond (n == number) (Some q) o) (others-stay number last query ws other)

-- ---- with the query that isn't among the others yet

pub next-found : (handed : ℕ) (ws : List (ℕ × DeliveredQuery)) (o : Option DeliveredQuery) → All (λ w. w.0 ≤ handed) ws → waiting_at (handed + 1) (with_handed o (record { handed = handed; waiting = ws })).waiting ≡ o
next-found handed ws None below = next-is-nowhere handed ws below
next-found handed ws (Some q) below = last-is-there (handed + 1) q ws (next-is-nowhere handed ws below)

pub other-found : (number handed : ℕ) (ws : List (ℕ × DeliveredQuery)) (o : Option DeliveredQuery) → handed + 1 ≢ number → waiting_at number (with_handed o (record { handed = handed; waiting = ws })).waiting ≡ waiting_at number ws
other-found number handed ws None other = refl
other-found number handed ws (Some q) other = others-stay number (handed + 1) q ws other

-- ---- in the form that the functions of `Waiting` have

abbrev pub filled : ℕ → List (ℕ × DeliveredQuery) → Numbered
filled handed ws = record { handed = handed; waiting = ws }

pub at-place : (number : ℕ) (ws borrowed : List (ℕ × DeliveredQuery)) (o : Option ℕ) (i : ℕ) → borrowed ≡ ws → o ≡ position (λ w. w.0 == number) borrowed → o ≡ Some i → IsThere number ws i
at-place number ws borrowed o i same is found = place-some number ws i (ap (λ (l : List (ℕ × DeliveredQuery)). position (λ w. w.0 == number) l) (sym same) ∙ sym is ∙ found)

pub at-none : (number : ℕ) (ws borrowed : List (ℕ × DeliveredQuery)) (o : Option ℕ) → borrowed ≡ ws → o ≡ position (λ w. w.0 == number) borrowed → o ≡ None → IsNowhere number ws
at-none number ws borrowed o same is found = place-none number ws (ap (λ (l : List (ℕ × DeliveredQuery)). position (λ w. w.0 == number) l) (sym same) ∙ sym is ∙ found)

pub taken-is : (number : ℕ) (ws : List (ℕ × DeliveredQuery)) (i : ℕ) (t : IsThere number ws i) (w : ℕ × DeliveredQuery) → w ≡ slice_index_or ws i w → w ≡ (number, t.query)
taken-is number ws i t w is = is ∙ get_or_from_slice_get ws i (number, t.query) w t.at

pub put-back-same : (number : ℕ) (ws : List (ℕ × DeliveredQuery)) (i : ℕ) (t : IsThere number ws i) (w : ℕ × DeliveredQuery) (rest back : List (ℕ × DeliveredQuery)) (q : DeliveredQuery) → w ≡ slice_index_or ws i w → rest ≡ remove ws i → q ≡ w.1 → back ≡ insert rest i (w.0, q) → back ≡ ws
put-back-same number ws i t w rest back q is taken same put =
    let whole : (w.0, q) ≡ (number, t.query) = ap (λ (x : DeliveredQuery). (w.0, x)) same ∙ taken-is number ws i t w is in
    put ∙ ap (λ (l : List (ℕ × DeliveredQuery)). insert l i (w.0, q)) taken ∙ ap (λ (x : ℕ × DeliveredQuery). insert (remove ws i) i x) whole ∙ put-back ws i (number, t.query) t.at

-- the query with the number is the one that was taken out
pub query-is : (number : ℕ) (ws : List (ℕ × DeliveredQuery)) (i : ℕ) (t : IsThere number ws i) (w : ℕ × DeliveredQuery) (q : DeliveredQuery) → w ≡ slice_index_or ws i w → waiting_at number ws ≡ Some q → q ≡ w.1
query-is number ws i t w q is some =
    let both : Some q ≡ Some t.query = sym some ∙ t.found in
    let same : q ≡ t.query = cc both in
    same ∙ sym (ap (λ (x : ℕ × DeliveredQuery). x.1) (taken-is number ws i t w is))

pub replied-ok : (q w : DeliveredQuery) (now : ℕ) (payload : List ℕ) (reply : Reply) → q ≡ w → respond_error w now payload ≡ None → reply ≡ record { addr = w.addr; port = w.port; packet = response_packet w payload } → Ok reply ≡ reply_of q now payload
replied-ok q w now payload reply same none is = ap (λ (r : Reply). Ok r) is ∙ sym (ap (λ (o : Option RespondError). replied_as w payload o) none) ∙ sym (ap (λ (x : DeliveredQuery). reply_of x now payload) same)

pub replied-err : (q w : DeliveredQuery) (now : ℕ) (payload : List ℕ) (error : RespondError) → q ≡ w → respond_error w now payload ≡ Some error → Err error ≡ reply_of q now payload
replied-err q w now payload error same is = sym (ap (λ (o : Option RespondError). replied_as w payload o) is) ∙ sym (ap (λ (x : DeliveredQuery). reply_of x now payload) same)

pub late-gone : (now : ℕ) (ws : List (ℕ × DeliveredQuery)) → All (λ w. now ≤ w.1.deadline) (filter (λ w. nat_le now w.1.deadline) ws)
late-gone now ws =
    let test : ℕ × DeliveredQuery → Bool = λ w. nat_le now w.1.deadline in
    weaker (λ (w : ℕ × DeliveredQuery). test w ≡ true) (λ (w : ℕ × DeliveredQuery). now ≤ w.1.deadline) (λ w is. leb-true now w.1.deadline is) (filter test ws) (filter_passes test ws)

-- ---- a binary search among numbers that rise

-- the first place at which a test passes
first_place : {X : Type 0} (p : X → Bool) (xs : List X) (i : ℕ) → i < length xs → ((d : X) → p (get_or xs i d) ≡ true) → ((k : ℕ) (d : X) → k < i → p (get_or xs k d) ≡ false) → position_or_len p xs ≡ i
first_place p [] i within at before = absurd (omega (arith, within))
first_place p (x ∷ xs) zero within at before = ap (λ (b : Bool). cond (not b) (1 + position_or_len p xs) 0) (at x)
first_place p (x ∷ xs) (suc i) within at before =
    ap (λ (b : Bool). cond (not b) (1 + position_or_len p xs) 0) (before 0 x (omega arith)) ∙ ap (λ (k : ℕ). 1 + k) (first_place p xs i (omega (arith, within)) at (λ k d low. before (suc k) d (omega (arith, low)))) ∙ omega arith

-- a test that no element passes
no_place : {X : Type 0} (p : X → Bool) (xs : List X) → ((k : ℕ) (d : X) → k < length xs → p (get_or xs k d) ≡ false) → position_or_len p xs ≡ length xs
no_place p [] none = refl
no_place p (x ∷ xs) none =
    ap (λ (b : Bool). cond (not b) (1 + position_or_len p xs) 0) (none 0 x (omega arith)) ∙ ap (λ (k : ℕ). 1 + k) (no_place p xs (λ k d low. none (suc k) d (omega (arith, low)))) ∙ omega arith

module _ (ws : List (ℕ × DeliveredQuery)) (rises : AllPairs (λ v w. v.0 < w.0) ws) (number : ℕ) where
  -- the comparisons with the number rise along the list, as a binary search requires
  comparisons_rise : (d : ℕ × DeliveredQuery) → IsNonDecreasingBy (λ w. ordering_index (nat_cmp w.0 number)) ws
  comparisons_rise d = IsNonDecreasingBy-from_default (λ w. ordering_index (nat_cmp w.0 number)) ws d (λ i j le low.
      let keys : (get_or ws i d).0 ≤ (get_or ws j d).0 = grind (arith, rises i j d, λ (same : i ≡ j). ap (λ (k : ℕ). (get_or ws k d).0) same) in
      grind (arith, nat_tests))

  pub searched : (r : Result ℕ ℕ) → IsSearchInRange r (length ws) → IsBinarySearchResult (λ w. nat_cmp w.0 number) ws r → result_ok r ≡ position (has number) ws
  searched (Ok i) within equal =
      let at : (d : ℕ × DeliveredQuery) → (get_or ws i d).0 ≡ number = λ d. ranked _ number _ (sym (equal d)) in
      let place : position_or_len (has number) ws ≡ i = first_place (has number) ws i within (λ d. eq-eqb _ _ (at d)) (λ k d low. grind (arith, nat_tests, rises k i d low within, at d)) in
      grind (arith, nat_tests, place, within)
  searched (Err i) within parted =
      let place : position_or_len (has number) ws ≡ length ws = no_place (has number) ws (λ k d low.
      let below = λ (before : k < i). ranked _ number _ (sym ((parted (comparisons_rise d)).0 k d (omega arith) before)) in
      let above = λ (following : i ≤ k). ranked _ number _ (sym ((parted (comparisons_rise d)).1 k d following low)) in
      grind (arith, nat_tests, below, above)) in
      grind (arith, nat_tests, place)

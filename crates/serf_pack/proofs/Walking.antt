-- Reading a checked value's parts, one after another.
use Rattle.serf_pack.proofs.Names.{Err, List, Ok, Result, [], ap, arith, cond, eqb, false, length, refl, subst, suc, zero, ℕ, ◌-◌, ◌<◌, ◌∙◌, ◌∷◌, ◌≡◌, nat_tests, Reader, items_or_none, pairs_or_none, place, rest_of, value_or_nil, ◌>>=◌, items_at, pairs_at, value_at, whole_at, Items, Pairs, Tree, item, pair, item_list, pair_list, PackError, Trailing}
use Rattle.serf_pack.proofs.Steps.{done}
use Rattle.serf_pack.proofs.Viewing.{IsGood}

-- what was read, if the rest after the value is known
same_rest : {A : Type 0} (x : A × List ℕ) (after : List ℕ) → done x.1 ≡ done after → x.1 ≡ after
same_rest x after e = cc

-- if the rest after a value is known, the value was read
pub good_by_rest : {A : Type 0} (r : Result (A × List ℕ) PackError) (after : List ℕ) → rest_of r ≡ Ok after → IsGood r
good_by_rest (Ok x) after e = refl
good_by_rest (Err f) after e = absurd cc

pub bad_by_error : {A : Type 0} (r : Result (A × List ℕ) PackError) (f : PackError) → rest_of r ≡ Err f → IsGood r → ⊥
bad_by_error (Ok x) f e good = cc
bad_by_error (Err g) f e good = cc

-- ---- items

abbrev with_item : Tree → Result (Items × List ℕ) PackError → Result (Items × List ℕ) PackError
with_item v r = r >>= λ vs. Ok (item v vs.0, vs.1)

abbrev whole_item : Reader Tree → ℕ → Result (Tree × List ℕ) PackError → Result (Items × List ℕ) PackError
whole_item value n r = r >>= λ v. with_item v.0 (items_at value n v.1)

abbrev ItemStep : Reader Tree → ℕ → List ℕ → Result (Tree × List ℕ) PackError → Result (Items × List ℕ) PackError → Type 0
ItemStep value n after first whole = IsGood (items_at value n after) × (item_list (items_or_none whole) ≡ value_or_nil first ∷ item_list (items_or_none (items_at value n after)))

item_tail : (value : Reader Tree) (n : ℕ) (after : List ℕ) (v : Tree) (r : Result (Items × List ℕ) PackError) → IsGood (with_item v r)
    → IsGood r × (item_list (items_or_none (with_item v r)) ≡ v ∷ item_list (items_or_none r))
item_tail value n after v (Ok x) good = (refl, refl)
item_tail value n after v (Err f) good = absurd cc

item_first : (value : Reader Tree) (n : ℕ) (after : List ℕ) (r : Result (Tree × List ℕ) PackError) → rest_of r ≡ Ok after → IsGood (whole_item value n r)
    → ItemStep value n after r (whole_item value n r)
item_first value n after (Ok x) e good =
    subst (λ (t : List ℕ). IsGood (items_at value n t) × (item_list (items_or_none (with_item x.0 (items_at value n x.1))) ≡ x.0 ∷ item_list (items_or_none (items_at value n t)))) (same_rest x after e)
    (item_tail value n after x.0 (items_at value n x.1) good)
item_first value n after (Err f) e good = absurd cc

pub item_step : (value : Reader Tree) (left : ℕ) (bytes after : List ℕ) → (left ≡ 0 → ⊥) → rest_of (value bytes) ≡ Ok after → IsGood (items_at value left bytes)
    → ItemStep value (left - 1) after (value bytes) (items_at value left bytes)
unfolding items_at
item_step value zero bytes after some e good = absurd (some refl)
item_step value (suc n) bytes after some e good =
    let k : suc n - 1 ≡ n = omega arith in
    rw k (item_first value n after (value bytes) e good)

item_good : (value : Reader Tree) (n : ℕ) (r : Result (Tree × List ℕ) PackError) → IsGood (whole_item value n r) → IsGood r
item_good value n (Ok x) good = refl
item_good value n (Err f) good = absurd cc

pub item_is_good : (value : Reader Tree) (left : ℕ) (bytes : List ℕ) → (left ≡ 0 → ⊥) → IsGood (items_at value left bytes) → IsGood (value bytes)
unfolding items_at
item_is_good value zero bytes some good = absurd (some refl)
item_is_good value (suc n) bytes some good = item_good value n (value bytes) good

pub no_item : (value : Reader Tree) (left : ℕ) (bytes : List ℕ) → left ≡ 0 → item_list (items_or_none (items_at value left bytes)) ≡ []
unfolding items_at
no_item value left bytes e = rw e refl

-- ---- pairs

abbrev with_pair : Tree → Tree → Result (Pairs × List ℕ) PackError → Result (Pairs × List ℕ) PackError
with_pair k v r = r >>= λ ps. Ok (pair k v ps.0, ps.1)

abbrev half_pair : Reader Tree → ℕ → Tree → Result (Tree × List ℕ) PackError → Result (Pairs × List ℕ) PackError
half_pair value n k r = r >>= λ v. with_pair k v.0 (pairs_at value n v.1)

abbrev PairStep : Reader Tree → ℕ → List ℕ → Result (Tree × List ℕ) PackError → Result (Tree × List ℕ) PackError → Result (Pairs × List ℕ) PackError → Type 0
PairStep value n after first second whole = IsGood (pairs_at value n after) × (pair_list (pairs_or_none whole) ≡ (value_or_nil first, value_or_nil second) ∷ pair_list (pairs_or_none (pairs_at value n after)))

pair_tail : (value : Reader Tree) (n : ℕ) (after : List ℕ) (k v : Tree) (r : Result (Pairs × List ℕ) PackError) → IsGood (with_pair k v r)
    → IsGood r × (pair_list (pairs_or_none (with_pair k v r)) ≡ (k, v) ∷ pair_list (pairs_or_none r))
pair_tail value n after k v (Ok x) good = (refl, refl)
pair_tail value n after k v (Err f) good = absurd cc

pair_second : (value : Reader Tree) (n : ℕ) (after : List ℕ) (k : Tree) (r : Result (Tree × List ℕ) PackError) → rest_of r ≡ Ok after → IsGood (half_pair value n k r)
    → PairStep value n after (Ok (k, [])) r (half_pair value n k r)
pair_second value n after k (Ok x) e good =
    subst (λ (t : List ℕ). IsGood (pairs_at value n t) × (pair_list (pairs_or_none (with_pair k x.0 (pairs_at value n x.1))) ≡ (k, x.0) ∷ pair_list (pairs_or_none (pairs_at value n t)))) (same_rest x after e)
    (pair_tail value n after k x.0 (pairs_at value n x.1) good)
pair_second value n after k (Err f) e good = absurd cc

abbrev whole_pair : Reader Tree → ℕ → Result (Tree × List ℕ) PackError → Result (Pairs × List ℕ) PackError
whole_pair value n r = r >>= λ k. half_pair value n k.0 (value k.1)

pair_first : (value : Reader Tree) (n : ℕ) (following after : List ℕ) (r : Result (Tree × List ℕ) PackError) → rest_of r ≡ Ok following → rest_of (value following) ≡ Ok after → IsGood (whole_pair value n r)
    → PairStep value n after r (value following) (whole_pair value n r)
pair_first value n following after (Ok x) e g good =
    let same = same_rest x following e in
    subst (λ (t : List ℕ). rest_of (value t) ≡ Ok after → PairStep value n after (Ok x) (value t) (half_pair value n x.0 (value x.1))) same
    (λ h. pair_second value n after x.0 (value x.1) h good) g
pair_first value n following after (Err f) e g good = absurd cc

pub pair_step : (value : Reader Tree) (left : ℕ) (bytes following after : List ℕ) → (left ≡ 0 → ⊥) → rest_of (value bytes) ≡ Ok following → rest_of (value following) ≡ Ok after → IsGood (pairs_at value left bytes)
    → PairStep value (left - 1) after (value bytes) (value following) (pairs_at value left bytes)
unfolding pairs_at
pair_step value zero bytes following after some e g good = absurd (some refl)
pair_step value (suc n) bytes following after some e g good =
    let k : suc n - 1 ≡ n = omega arith in
    rw k (pair_first value n following after (value bytes) e g good)

key_good : (value : Reader Tree) (n : ℕ) (r : Result (Tree × List ℕ) PackError) → IsGood (whole_pair value n r) → IsGood r
key_good value n (Ok x) good = refl
key_good value n (Err f) good = absurd cc

pub key_is_good : (value : Reader Tree) (left : ℕ) (bytes : List ℕ) → (left ≡ 0 → ⊥) → IsGood (pairs_at value left bytes) → IsGood (value bytes)
unfolding pairs_at
key_is_good value zero bytes some good = absurd (some refl)
key_is_good value (suc n) bytes some good = key_good value n (value bytes) good

second_good : (value : Reader Tree) (n : ℕ) (k : Tree) (r : Result (Tree × List ℕ) PackError) → IsGood (half_pair value n k r) → IsGood r
second_good value n k (Ok x) good = refl
second_good value n k (Err f) good = absurd cc

second_by : (value : Reader Tree) (n : ℕ) (following : List ℕ) (r : Result (Tree × List ℕ) PackError) → rest_of r ≡ Ok following → IsGood (whole_pair value n r) → IsGood (value following)
second_by value n following (Ok x) e good = subst (λ (t : List ℕ). IsGood (value t)) (same_rest x following e) (second_good value n x.0 (value x.1) good)
second_by value n following (Err f) e good = absurd cc

pub value_is_good : (value : Reader Tree) (left : ℕ) (bytes following : List ℕ) → (left ≡ 0 → ⊥) → rest_of (value bytes) ≡ Ok following → IsGood (pairs_at value left bytes) → IsGood (value following)
unfolding pairs_at
value_is_good value zero bytes following some e good = absurd (some refl)
value_is_good value (suc n) bytes following some e good = second_by value n following (value bytes) e good

pub no_pair : (value : Reader Tree) (left : ℕ) (bytes : List ℕ) → left ≡ 0 → pair_list (pairs_or_none (pairs_at value left bytes)) ≡ []
unfolding pairs_at
no_pair value left bytes e = rw e refl

-- ---- all of the bytes

whole_by : (bytes : List ℕ) (r : Result (Tree × List ℕ) PackError) (rest : List ℕ) → rest_of r ≡ Ok rest → length rest ≡ 0
    → (r >>= λ v. cond (eqb (length v.1) 0) (Ok v.0) (Err (Trailing (place (length bytes) v.1)))) ≡ Ok (value_or_nil r)
whole_by bytes (Ok x) rest e none =
    let ended : length x.1 ≡ 0 = ap length (same_rest x rest e) ∙ none in
    rw ended refl
whole_by bytes (Err f) rest e none = absurd cc

pub whole_is : (depth_left : ℕ) (bytes rest : List ℕ) → rest_of (value_at depth_left (length bytes) bytes) ≡ Ok rest → length rest ≡ 0 → whole_at depth_left bytes ≡ Ok (value_or_nil (value_at depth_left (length bytes) bytes))
unfolding whole_at
whole_is depth_left bytes rest e none = whole_by bytes (value_at depth_left (length bytes) bytes) rest e none

trailing_by : (bytes : List ℕ) (r : Result (Tree × List ℕ) PackError) (rest : List ℕ) → rest_of r ≡ Ok rest → 0 < length rest
    → (r >>= λ v. cond (eqb (length v.1) 0) (Ok v.0) (Err (Trailing (place (length bytes) v.1)))) ≡ Err (Trailing (place (length bytes) rest))
trailing_by bytes (Ok x) rest e some =
    let same = same_rest x rest e in
    let test : eqb (length x.1) 0 ≡ false = grind (arith, nat_tests) in
    rw (test, same) refl
trailing_by bytes (Err f) rest e some = absurd cc

pub trailing_is : (depth_left : ℕ) (bytes rest : List ℕ) → rest_of (value_at depth_left (length bytes) bytes) ≡ Ok rest → 0 < length rest → whole_at depth_left bytes ≡ Err (Trailing (place (length bytes) rest))
unfolding whole_at
trailing_is depth_left bytes rest e some = trailing_by bytes (value_at depth_left (length bytes) bytes) rest e some

whole_error_by : (bytes : List ℕ) (r : Result (Tree × List ℕ) PackError) (f : PackError) → rest_of r ≡ Err f
    → (r >>= λ v. cond (eqb (length v.1) 0) (Ok v.0) (Err (Trailing (place (length bytes) v.1)))) ≡ Err f
whole_error_by bytes (Ok x) f e = absurd cc
whole_error_by bytes (Err g) f e = let same : g ≡ f = cc in rw same refl

pub whole_error : (depth_left : ℕ) (bytes : List ℕ) (f : PackError) → rest_of (value_at depth_left (length bytes) bytes) ≡ Err f → whole_at depth_left bytes ≡ Err f
unfolding whole_at
whole_error depth_left bytes f e = whole_error_by bytes (value_at depth_left (length bytes) bytes) f e

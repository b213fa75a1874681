-- Skipping a value's parts reads them.
use Rattle.serf_pack.proofs.Names.{Bool, Err, List, Ok, Result, [], ap, arith, drop, false, length, nat_lt, refl, slice_index_or, suc, sym, take, zero, ℕ, ℤ, ◌+◌, ◌-◌, ◌<◌, ◌∙◌, ◌∷◌, ◌≡◌, ◌≤◌, le-ltb, take_all, big_number, Reader, head_by, place, rest_of, ◌>>=◌, head_at, items_at, pairs_at, value_at, meaning_of, row_of, Tree, array, item, pair, pairs, PackError, TooDeep, Truncated, Field, Head, Array, Flag, Int, Map, Nil, Raw, Row, Number, Whole}
use Rattle.serf_pack.proofs.ByHead.{read_nil, read_flag, read_int, read_raw, refuse_head, refuse_raw, refuse_deep_array, refuse_deep_map}

-- a change of the value doesn't change the rest
pub rest-map : {A B : Type 0} (f : A → B) (r : Result (A × List ℕ) PackError) → rest_of (r >>= λ x. Ok (f x.0, x.1)) ≡ rest_of r
rest-map f (Ok x) = refl
rest-map f (Err e) = refl

pub one_item : (value : Reader Tree) (n : ℕ) (bytes : List ℕ) → rest_of (items_at value (suc n) bytes) ≡ rest_of (value bytes) >>= λ after. rest_of (items_at value n after)
unfolding items_at
one_item value n bytes =
    elim (value bytes) as (λ r. rest_of (r >>= λ v. items_at value n v.1 >>= λ vs. Ok (item v.0 vs.0, vs.1)) ≡ rest_of r >>= λ after. rest_of (items_at value n after)) [
      | Ok v ↦ rest-map (λ vs. item v.0 vs) (items_at value n v.1)
      | Err e ↦ refl
    ]

pub one_pair : (value : Reader Tree) (n : ℕ) (bytes : List ℕ) → rest_of (pairs_at value (suc n) bytes) ≡ rest_of (value bytes) >>= λ following. rest_of (value following) >>= λ after. rest_of (pairs_at value n after)
unfolding pairs_at
one_pair value n bytes =
    elim (value bytes) as (λ r. rest_of (r >>= λ k. value k.1 >>= λ v. pairs_at value n v.1 >>= λ ps. Ok (pair k.0 v.0 ps.0, ps.1)) ≡ rest_of r >>= λ following. rest_of (value following) >>= λ after. rest_of (pairs_at value n after)) [
      | Ok k ↦ elim (value k.1) as (λ r. rest_of (r >>= λ v. pairs_at value n v.1 >>= λ ps. Ok (pair k.0 v.0 ps.0, ps.1)) ≡ rest_of r >>= λ after. rest_of (pairs_at value n after)) [
        | Ok v ↦ rest-map (λ ps. pair k.0 v.0 ps) (pairs_at value n v.1)
        | Err e ↦ refl
      ]
      | Err e ↦ refl
    ]

-- ---- what follows a value, by its head

module _ (depth_left total : ℕ) (bytes : List ℕ) where
  pub by_error : (e : PackError) → head_at total bytes ≡ Err e → rest_of (value_at depth_left total bytes) ≡ Err e
  by_error e h = ap rest_of (refuse_head depth_left total bytes e h)

  pub by_nil : (rest : List ℕ) → head_at total bytes ≡ Ok (Nil, rest) → rest_of (value_at depth_left total bytes) ≡ Ok rest
  by_nil rest h = ap rest_of (read_nil depth_left total bytes rest h)

  pub by_flag : (b : Bool) (rest : List ℕ) → head_at total bytes ≡ Ok (Flag b, rest) → rest_of (value_at depth_left total bytes) ≡ Ok rest
  by_flag b rest h = ap rest_of (read_flag depth_left total bytes rest b h)

  pub by_int : (z : ℤ) (rest : List ℕ) → head_at total bytes ≡ Ok (Int z, rest) → rest_of (value_at depth_left total bytes) ≡ Ok rest
  by_int z rest h = ap rest_of (read_int depth_left total bytes rest z h)

  pub by_raw : (n : ℕ) (rest : List ℕ) → head_at total bytes ≡ Ok (Raw n, rest) → n ≤ length rest → rest_of (value_at depth_left total bytes) ≡ Ok (drop n rest)
  by_raw n rest h le = ap rest_of (read_raw depth_left total bytes rest n h le)

  pub by_raw_short : (n : ℕ) (rest : List ℕ) → head_at total bytes ≡ Ok (Raw n, rest) → length rest < n → rest_of (value_at depth_left total bytes) ≡ Err (Truncated (place total bytes))
  by_raw_short n rest h lt = ap rest_of (refuse_raw depth_left total bytes rest n h lt)

  pub by_array : (n : ℕ) (rest : List ℕ) → 0 < depth_left → head_at total bytes ≡ Ok (Array n, rest) → rest_of (value_at depth_left total bytes) ≡ rest_of (items_at (value_at (depth_left - 1) total) n rest)
  unfolding value_at
  by_array n rest pos h =
      (elim depth_left as (λ r. 0 < r → rest_of (value_at r total bytes) ≡ rest_of (items_at (value_at (r - 1) total) n rest)) [
        | zero ↦ λ lt. absurd (omega arith)
        | suc r ↦ λ lt. let k : suc r - 1 ≡ r = omega arith in rw (k, h) (rest-map (λ vs. array (place total bytes) vs) (items_at (value_at r total) n rest))
      ]) pos

  pub by_map : (n : ℕ) (rest : List ℕ) → 0 < depth_left → head_at total bytes ≡ Ok (Map n, rest) → rest_of (value_at depth_left total bytes) ≡ rest_of (pairs_at (value_at (depth_left - 1) total) n rest)
  unfolding value_at
  by_map n rest pos h =
      (elim depth_left as (λ r. 0 < r → rest_of (value_at r total bytes) ≡ rest_of (pairs_at (value_at (r - 1) total) n rest)) [
        | zero ↦ λ lt. absurd (omega arith)
        | suc r ↦ λ lt. let k : suc r - 1 ≡ r = omega arith in rw (k, h) (rest-map (λ ps. pairs (place total bytes) ps) (pairs_at (value_at r total) n rest))
      ]) pos

  pub array_too_deep : (n : ℕ) (rest : List ℕ) → depth_left ≡ 0 → head_at total bytes ≡ Ok (Array n, rest) → rest_of (value_at depth_left total bytes) ≡ Err (TooDeep (place total bytes))
  array_too_deep n rest none h = ap rest_of (refuse_deep_array depth_left total bytes rest n h none)

  pub map_too_deep : (n : ℕ) (rest : List ℕ) → depth_left ≡ 0 → head_at total bytes ≡ Ok (Map n, rest) → rest_of (value_at depth_left total bytes) ≡ Err (TooDeep (place total bytes))
  map_too_deep n rest none h = ap rest_of (refuse_deep_map depth_left total bytes rest n h none)

-- ---- one part after another

module _ (depth_left total count i : ℕ) (bytes : List ℕ) where
  pub item_left : (after : List ℕ) → i < count → rest_of (value_at depth_left total bytes) ≡ Ok after
      → rest_of (items_at (value_at depth_left total) (count - i) bytes) ≡ rest_of (items_at (value_at depth_left total) (count - (i + 1)) after)
  item_left after lt h =
      let k : count - i ≡ suc (count - (i + 1)) = omega arith in
      rw (k, one_item (value_at depth_left total) (count - (i + 1)) bytes, h) refl

  pub item_error : (e : PackError) → i < count → rest_of (value_at depth_left total bytes) ≡ Err e → rest_of (items_at (value_at depth_left total) (count - i) bytes) ≡ Err e
  item_error e lt h =
      let k : count - i ≡ suc (count - (i + 1)) = omega arith in
      rw (k, one_item (value_at depth_left total) (count - (i + 1)) bytes, h) refl

  pub items_end : count ≤ i → rest_of (items_at (value_at depth_left total) (count - i) bytes) ≡ Ok bytes
  unfolding items_at
  items_end le = let k : count - i ≡ 0 = omega arith in rw k refl

  pub pair_left : (following after : List ℕ) → i < count → rest_of (value_at depth_left total bytes) ≡ Ok following → rest_of (value_at depth_left total following) ≡ Ok after
      → rest_of (pairs_at (value_at depth_left total) (count - i) bytes) ≡ rest_of (pairs_at (value_at depth_left total) (count - (i + 1)) after)
  pair_left following after lt h g =
      let k : count - i ≡ suc (count - (i + 1)) = omega arith in
      rw (k, one_pair (value_at depth_left total) (count - (i + 1)) bytes, h, g) refl

  pub key_error : (e : PackError) → i < count → rest_of (value_at depth_left total bytes) ≡ Err e → rest_of (pairs_at (value_at depth_left total) (count - i) bytes) ≡ Err e
  key_error e lt h =
      let k : count - i ≡ suc (count - (i + 1)) = omega arith in
      rw (k, one_pair (value_at depth_left total) (count - (i + 1)) bytes, h) refl

  pub pair_error : (following : List ℕ) (e : PackError) → i < count → rest_of (value_at depth_left total bytes) ≡ Ok following → rest_of (value_at depth_left total following) ≡ Err e
      → rest_of (pairs_at (value_at depth_left total) (count - i) bytes) ≡ Err e
  pair_error following e lt h g =
      let k : count - i ≡ suc (count - (i + 1)) = omega arith in
      rw (k, one_pair (value_at depth_left total) (count - (i + 1)) bytes, h, g) refl

  pub pairs_end : count ≤ i → rest_of (pairs_at (value_at depth_left total) (count - i) bytes) ≡ Ok bytes
  unfolding pairs_at
  pairs_end le = let k : count - i ≡ 0 = omega arith in rw k refl

-- ---- a value whose first byte is the whole head

after_first : (b : ℕ) (rest : List ℕ) → take (length (b ∷ rest) - 1) rest ≡ rest
after_first b rest = take_all (length (b ∷ rest) - 1) rest (omega arith)

pub whole_head : (total : ℕ) (bytes : List ℕ) (r : Row) (g h : Head) → 1 ≤ length bytes → r ≡ row_of (slice_index_or bytes 0 0) → r ≡ Whole g → g ≡ h
    → head_at total bytes ≡ Ok (h, take (length bytes - 1) (drop 1 bytes))
unfolding head_at
whole_head total [] r g h le row is same = absurd (omega arith)
whole_head total (b ∷ rest) r g h le row is same =
    let e : row_of b ≡ Whole h = sym row ∙ is ∙ ap Whole same in
    ap (λ (x : Row). head_by (place total (b ∷ rest)) x b rest) e ∙ rw (after_first b rest) refl

pub number_head : (total : ℕ) (bytes : List ℕ) (r : Row) (f g : Field) (w : ℕ) → 1 ≤ length bytes → r ≡ row_of (slice_index_or bytes 0 0) → r ≡ Number f w → f ≡ g → w ≤ length (take (length bytes - 1) (drop 1 bytes))
    → head_at total bytes ≡ Ok (meaning_of g w (big_number w (take (length bytes - 1) (drop 1 bytes))), drop w (take (length bytes - 1) (drop 1 bytes)))
unfolding head_at
number_head total [] r f g w le row is same long = absurd (omega arith)
number_head total (b ∷ rest) r f g w le row is same long =
    let e : row_of b ≡ Number g w = sym row ∙ is ∙ ap (λ (x : Field). Number x w) same in
    let all = after_first b rest in
    let enough : w ≤ length rest = rw all at long in
    let test : nat_lt (length rest) w ≡ false = le-ltb _ _ enough in
    ap (λ (x : Row). head_by (place total (b ∷ rest)) x b rest) e ∙ rw (test, all) refl

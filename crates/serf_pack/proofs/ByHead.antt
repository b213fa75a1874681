-- The result of reading a value, by its head.
use Rattle.serf_pack.proofs.Names.{Bool, Err, List, Ok, arith, drop, false, length, nat_lt, refl, suc, take, true, zero, ℕ, ℤ, ◌-◌, ◌<◌, ◌≡◌, ◌≤◌, le-ltb, lt-ltb, place, head_at, items_at, pairs_at, value_at, Items, Pairs, array, flag, int, nil, pairs, raw, PackError}
use Rattle.serf_pack.specs.declared.error.PackError.TheVariants as errors
use Rattle.serf_pack.specs.declared.head.Head.TheVariants as heads

module _ (depth_left total : ℕ) (bytes rest : List ℕ) where
  -- ---- values that are read

  pub read_nil : head_at total bytes ≡ Ok (heads.Nil, rest) → value_at depth_left total bytes ≡ Ok (nil (place total bytes), rest)
  unfolding value_at
  read_nil h = elim depth_left as (λ k. value_at k total bytes ≡ Ok (nil (place total bytes), rest)) [ zero ↦ rw h refl | suc k ↦ rw h refl ]

  pub read_flag : (b : Bool) → head_at total bytes ≡ Ok (heads.Flag b, rest) → value_at depth_left total bytes ≡ Ok (flag (place total bytes) b, rest)
  unfolding value_at
  read_flag b h = elim depth_left as (λ k. value_at k total bytes ≡ Ok (flag (place total bytes) b, rest)) [ zero ↦ rw h refl | suc k ↦ rw h refl ]

  pub read_int : (z : ℤ) → head_at total bytes ≡ Ok (heads.Int z, rest) → value_at depth_left total bytes ≡ Ok (int (place total bytes) z, rest)
  unfolding value_at
  read_int z h = elim depth_left as (λ k. value_at k total bytes ≡ Ok (int (place total bytes) z, rest)) [ zero ↦ rw h refl | suc k ↦ rw h refl ]

  pub read_raw : (n : ℕ) → head_at total bytes ≡ Ok (heads.Raw n, rest) → n ≤ length rest → value_at depth_left total bytes ≡ Ok (raw (place total bytes) (take n rest), drop n rest)
  unfolding value_at
  read_raw n h le =
      let long : nat_lt (length rest) n ≡ false = le-ltb _ _ le in
      elim depth_left as (λ k. value_at k total bytes ≡ Ok (raw (place total bytes) (take n rest), drop n rest)) [ zero ↦ rw (h, long) refl | suc k ↦ rw (h, long) refl ]

  pub read_array : (n : ℕ) (vs : Items) (after : List ℕ) → 0 < depth_left → head_at total bytes ≡ Ok (heads.Array n, rest) → items_at (value_at (depth_left - 1) total) n rest ≡ Ok (vs, after)
      → value_at depth_left total bytes ≡ Ok (array (place total bytes) vs, after)
  unfolding value_at
  read_array n vs after pos h parts =
      (elim depth_left as (λ r. 0 < r → items_at (value_at (r - 1) total) n rest ≡ Ok (vs, after) → value_at r total bytes ≡ Ok (array (place total bytes) vs, after)) [
        | zero ↦ λ lt e. absurd (omega arith)
        | suc r ↦ λ lt e. let k : suc r - 1 ≡ r = omega arith in let e2 : items_at (value_at r total) n rest ≡ Ok (vs, after) = rw k at e in rw (h, e2) refl
      ]) pos parts

  pub read_map : (n : ℕ) (ps : Pairs) (after : List ℕ) → 0 < depth_left → head_at total bytes ≡ Ok (heads.Map n, rest) → pairs_at (value_at (depth_left - 1) total) n rest ≡ Ok (ps, after)
      → value_at depth_left total bytes ≡ Ok (pairs (place total bytes) ps, after)
  unfolding value_at
  read_map n ps after pos h parts =
      (elim depth_left as (λ r. 0 < r → pairs_at (value_at (r - 1) total) n rest ≡ Ok (ps, after) → value_at r total bytes ≡ Ok (pairs (place total bytes) ps, after)) [
        | zero ↦ λ lt e. absurd (omega arith)
        | suc r ↦ λ lt e. let k : suc r - 1 ≡ r = omega arith in let e2 : pairs_at (value_at r total) n rest ≡ Ok (ps, after) = rw k at e in rw (h, e2) refl
      ]) pos parts

  -- ---- values that are refused

  pub refuse_raw : (n : ℕ) → head_at total bytes ≡ Ok (heads.Raw n, rest) → length rest < n → value_at depth_left total bytes ≡ Err (errors.Truncated (place total bytes))
  unfolding value_at
  refuse_raw n h lt =
      let short : nat_lt (length rest) n ≡ true = lt-ltb _ _ lt in
      elim depth_left as (λ k. value_at k total bytes ≡ Err (errors.Truncated (place total bytes))) [ zero ↦ rw (h, short) refl | suc k ↦ rw (h, short) refl ]

  pub refuse_deep_array : (n : ℕ) → head_at total bytes ≡ Ok (heads.Array n, rest) → depth_left ≡ 0 → value_at depth_left total bytes ≡ Err (errors.TooDeep (place total bytes))
  unfolding value_at
  refuse_deep_array n h none = rw (none, h) refl

  pub refuse_deep_map : (n : ℕ) → head_at total bytes ≡ Ok (heads.Map n, rest) → depth_left ≡ 0 → value_at depth_left total bytes ≡ Err (errors.TooDeep (place total bytes))
  unfolding value_at
  refuse_deep_map n h none = rw (none, h) refl

  pub refuse_array : (n : ℕ) (f : PackError) → 0 < depth_left → head_at total bytes ≡ Ok (heads.Array n, rest) → items_at (value_at (depth_left - 1) total) n rest ≡ Err f → value_at depth_left total bytes ≡ Err f
  unfolding value_at
  refuse_array n f pos h parts =
      (elim depth_left as (λ r. 0 < r → items_at (value_at (r - 1) total) n rest ≡ Err f → value_at r total bytes ≡ Err f) [
        | zero ↦ λ lt e. absurd (omega arith)
        | suc r ↦ λ lt e. let k : suc r - 1 ≡ r = omega arith in let e2 : items_at (value_at r total) n rest ≡ Err f = rw k at e in rw (h, e2) refl
      ]) pos parts

  pub refuse_map : (n : ℕ) (f : PackError) → 0 < depth_left → head_at total bytes ≡ Ok (heads.Map n, rest) → pairs_at (value_at (depth_left - 1) total) n rest ≡ Err f → value_at depth_left total bytes ≡ Err f
  unfolding value_at
  refuse_map n f pos h parts =
      (elim depth_left as (λ r. 0 < r → pairs_at (value_at (r - 1) total) n rest ≡ Err f → value_at r total bytes ≡ Err f) [
        | zero ↦ λ lt e. absurd (omega arith)
        | suc r ↦ λ lt e. let k : suc r - 1 ≡ r = omega arith in let e2 : pairs_at (value_at r total) n rest ≡ Err f = rw k at e in rw (h, e2) refl
      ]) pos parts

pub refuse_head : (depth_left total : ℕ) (bytes : List ℕ) (f : PackError) → head_at total bytes ≡ Err f → value_at depth_left total bytes ≡ Err f
unfolding value_at
refuse_head depth_left total bytes f h = elim depth_left as (λ k. value_at k total bytes ≡ Err f) [ zero ↦ rw h refl | suc k ↦ rw h refl ]

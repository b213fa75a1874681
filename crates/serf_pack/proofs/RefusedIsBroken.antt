-- If a value is refused, it breaks with the same error.
use Rattle.serf_pack.proofs.Names.{Err, List, Ok, Result, [], ap, append_assoc, arith, cond, drop, inl, inr, length, length-append, nat_lt, refl, subst, suc, sym, take, zero, ℕ, ◌++◌, ◌+◌, ◌<◌, ◌∙◌, ◌∷◌, ◌≡◌, ◌≤◌, ◌⊎◌, ltb-true, big_number, Breaks, at_end, deep_array, deep_map, in_array, in_key, in_value, short_number, short_raw, unsupported, BeginsWith, PackItems, PackPairs, Packs, item_count, pair_count, Reader, head_by, parts_by, place, too_deep, ◌>>=◌, head_at, items_at, pairs_at, value_at, meaning_of, row_of, Items, Pairs, Tree, array, item, no_items, no_pairs, pair, pairs, raw, PackError, Truncated, Head, Row, Number, Unsupported, Whole}
use Rattle.serf_pack.specs.declared.head.Head.TheVariants as heads
use Rattle.serf_pack.proofs.Steps.{error_is, bind_err, guard_err}
use Rattle.serf_pack.proofs.ReadIsSpelled.{IsTrueReader, head_back, moved, value_back}

-- ---- heads

row_refused : (d p b : ℕ) (rest : List ℕ) (f : PackError) (r : Row) → row_of b ≡ r → head_by p r b rest ≡ Err f → Breaks d p (b ∷ rest) f
row_refused d p b rest f (Whole g) row e = absurd cc
row_refused d p b rest f (Number field w) row e =
    let g = guard_err (nat_lt (length rest) w) (Truncated p) f (meaning_of field w (big_number w rest), drop w rest) e in
    short_number d p (b ∷ rest) f b rest field w refl row (ltb-true _ _ g.0) g.1
row_refused d p b rest f Unsupported row e = unsupported d p (b ∷ rest) f b rest refl row (error_is {A = Head × List ℕ} _ _ e)

head_refused : (d total : ℕ) (bytes : List ℕ) (f : PackError) → head_at total bytes ≡ Err f → Breaks d (place total bytes) bytes f
unfolding head_at
head_refused d total [] f e = at_end d (place total []) [] f refl (error_is {A = Head × List ℕ} _ _ e)
head_refused d total (b ∷ rest) f e = row_refused d (place total (b ∷ rest)) b rest f (row_of b) refl e

-- ---- parts

record ItemBreaks (total d n : ℕ) (bytes : List ℕ) (f : PackError) : Type 0 where
  vs : Items
  front : List ℕ
  rest : List ℕ
  bytes_are : bytes ≡ front ++ rest
  packs : PackItems vs d (place total bytes) front
  count : item_count vs < n
  here : Breaks d (place total bytes + length front) rest f

-- a key breaks, or the value after a key
record KeyBreaks (total d n : ℕ) (bytes : List ℕ) (f : PackError) : Type 0 where
  ps : Pairs
  front : List ℕ
  rest : List ℕ
  bytes_are : bytes ≡ front ++ rest
  packs : PackPairs ps d (place total bytes) front
  count : pair_count ps < n
  here : Breaks d (place total bytes + length front) rest f

record ValueBreaks (total d n : ℕ) (bytes : List ℕ) (f : PackError) : Type 0 where
  ps : Pairs
  front : List ℕ
  k : Tree
  key : List ℕ
  rest : List ℕ
  bytes_are : bytes ≡ front ++ (key ++ rest)
  packs : PackPairs ps d (place total bytes) front
  count : pair_count ps < n
  packed : Packs k d (place total bytes + length front) key
  here : Breaks d (place total bytes + length front + length key) rest f

-- a reader refuses only what breaks
abbrev IsFairReader : ℕ → ℕ → Reader Tree → Type 0
IsFairReader total d value = (bytes : List ℕ) (f : PackError) → length bytes ≤ total → value bytes ≡ Err f → Breaks d (place total bytes) bytes f

module _ (total d : ℕ) (value : Reader Tree) (tells : IsTrueReader total d value) (fair : IsFairReader total d value) where
  items_refused : (n : ℕ) (bytes : List ℕ) (f : PackError) → length bytes ≤ total → items_at value n bytes ≡ Err f → ItemBreaks total d n bytes f
  unfolding items_at
  items_refused zero bytes f le e = absurd cc
  items_refused (suc n) bytes f le e =
      elim (bind_err (value bytes) (λ v. items_at value n v.1 >>= λ vs. Ok (item v.0 vs.0, vs.1)) f e) [
        | inl bad ↦ record { vs = no_items; front = []; rest = bytes; bytes_are = refl; packs = refl; count = omega arith; here = subst (λ k. Breaks d k bytes f) (omega arith) (fair bytes f le bad) }
        | inr a ↦
            let first = tells bytes a.0 le a.1 in
            let m = moved total bytes first.text a.0.1 first.bytes_are le in
            elim (bind_err (items_at value n a.0.1) (λ vs. Ok (item a.0.0 vs.0, vs.1)) f a.2) [
              | inl bad ↦
                  let r = items_refused n a.0.1 f m.1 bad in
                  record {
                    vs = item a.0.0 r.vs;
                    front = first.text ++ r.front;
                    rest = r.rest;
                    bytes_are = first.bytes_are ∙ ap (λ (t : List ℕ). first.text ++ t) r.bytes_are ∙ sym (append_assoc first.text r.front r.rest);
                    packs = (first.text, r.front, refl, first.packs, subst (λ k. PackItems r.vs d k r.front) m.0 r.packs);
                    count = omega (arith, r.count);
                    here = subst (λ k. Breaks d k r.rest f) (omega (arith, m.0, length-append first.text r.front)) r.here;
                  }
              | inr b ↦ absurd (let bad = b.2 in cc)
            ]
      ]

  pairs_refused : (n : ℕ) (bytes : List ℕ) (f : PackError) → length bytes ≤ total → pairs_at value n bytes ≡ Err f → KeyBreaks total d n bytes f ⊎ ValueBreaks total d n bytes f
  unfolding pairs_at
  pairs_refused zero bytes f le e = absurd cc
  pairs_refused (suc n) bytes f le e =
      elim (bind_err (value bytes) (λ k. value k.1 >>= λ v. pairs_at value n v.1 >>= λ ps. Ok (pair k.0 v.0 ps.0, ps.1)) f e) [
        | inl bad ↦ inl (record { ps = no_pairs; front = []; rest = bytes; bytes_are = refl; packs = refl; count = omega arith; here = subst (λ k. Breaks d k bytes f) (omega arith) (fair bytes f le bad) })
        | inr a ↦
            let key = tells bytes a.0 le a.1 in
            let m = moved total bytes key.text a.0.1 key.bytes_are le in
            elim (bind_err (value a.0.1) (λ v. pairs_at value n v.1 >>= λ ps. Ok (pair a.0.0 v.0 ps.0, ps.1)) f a.2) [
              | inl bad ↦ inr (record {
                ps = no_pairs;
                front = [];
                k = a.0.0;
                key = key.text;
                rest = a.0.1;
                bytes_are = key.bytes_are;
                packs = refl;
                count = omega arith;
                packed = subst (λ k. Packs a.0.0 d k key.text) (omega arith) key.packs;
                here = subst (λ k. Breaks d k a.0.1 f) (omega (arith, m.0)) (fair a.0.1 f m.1 bad);
              })
              | inr b ↦
                  let second = tells a.0.1 b.0 m.1 b.1 in
                  let j = moved total a.0.1 second.text b.0.1 second.bytes_are m.1 in
                  let front_is : bytes ≡ key.text ++ (second.text ++ b.0.1) = key.bytes_are ∙ ap (λ (t : List ℕ). key.text ++ t) second.bytes_are in
                  elim (bind_err (pairs_at value n b.0.1) (λ ps. Ok (pair a.0.0 b.0.0 ps.0, ps.1)) f b.2) [
                    | inl bad ↦
                        elim (pairs_refused n b.0.1 f j.1 bad) [
                          | inl r ↦ inl (record {
                            ps = pair a.0.0 b.0.0 r.ps;
                            front = key.text ++ second.text ++ r.front;
                            rest = r.rest;
                            bytes_are = front_is ∙ ap (λ (t : List ℕ). key.text ++ (second.text ++ t)) r.bytes_are ∙ simp append_assoc;
                            packs = (key.text, second.text, r.front, refl, key.packs, subst (λ n. Packs b.0.0 d n second.text) m.0 second.packs, subst (λ n. PackPairs r.ps d n r.front) (j.0 ∙ ap (λ n. n + length second.text) m.0) r.packs);
                            count = omega (arith, r.count);
                            here = subst (λ k. Breaks d k r.rest f) (omega (arith, m.0, j.0, length-append (key.text ++ second.text) r.front, length-append key.text second.text)) r.here;
                          })
                          | inr r ↦ inr (record {
                            ps = pair a.0.0 b.0.0 r.ps;
                            front = key.text ++ second.text ++ r.front;
                            k = r.k;
                            key = r.key;
                            rest = r.rest;
                            bytes_are = front_is ∙ ap (λ (t : List ℕ). key.text ++ (second.text ++ t)) r.bytes_are ∙ simp append_assoc;
                            packs = (key.text, second.text, r.front, refl, key.packs, subst (λ n. Packs b.0.0 d n second.text) m.0 second.packs, subst (λ n. PackPairs r.ps d n r.front) (j.0 ∙ ap (λ n. n + length second.text) m.0) r.packs);
                            count = omega (arith, r.count);
                            packed = subst (λ k. Packs r.k d k r.key) (omega (arith, m.0, j.0, length-append (key.text ++ second.text) r.front, length-append key.text second.text)) r.packed;
                            here = subst (λ k. Breaks d k r.rest f) (omega (arith, m.0, j.0, length-append (key.text ++ second.text) r.front, length-append key.text second.text)) r.here;
                          })
                        ]
                    | inr c ↦ absurd (let bad = c.2 in cc)
                  ]
            ]
      ]

-- ---- values

abbrev with_array : ℕ → Result (Items × List ℕ) PackError → Result (Tree × List ℕ) PackError
with_array p r = r >>= λ vs. Ok (array p vs.0, vs.1)

abbrev with_pairs : ℕ → Result (Pairs × List ℕ) PackError → Result (Tree × List ℕ) PackError
with_pairs p r = r >>= λ ps. Ok (pairs p ps.0, ps.1)

module _ (total d : ℕ) (bytes : List ℕ) (le : length bytes ≤ total) where
  raw_refused : (n : ℕ) (rest : List ℕ) (f : PackError) → BeginsWith (heads.Raw n) bytes rest
      → cond {A = Result (Tree × List ℕ) PackError} (nat_lt (length rest) n) (Err (Truncated (place total bytes))) (Ok (raw (place total bytes) (take n rest), drop n rest)) ≡ Err f → Breaks d (place total bytes) bytes f
  raw_refused n rest f h e =
      let g = guard_err (nat_lt (length rest) n) (Truncated (place total bytes)) f (raw (place total bytes) (take n rest), drop n rest) e in
      short_raw d (place total bytes) bytes f h.head rest n h.bytes_are h.is (ltb-true _ _ g.0) g.1

  array_refused : (value : Reader Tree) → d < 8 → IsTrueReader total (d + 1) value → IsFairReader total (d + 1) value → (n : ℕ) (rest : List ℕ) (f : PackError) → BeginsWith (heads.Array n) bytes rest
      → items_at value n rest ≡ Err f → Breaks d (place total bytes) bytes f
  array_refused value depth_left tells fair n rest f h e =
      let m = moved total bytes h.head rest h.bytes_are le in
      let r = items_refused total (d + 1) value tells fair n rest f m.1 e in
      in_array d (place total bytes) bytes f h.head r.front r.rest n r.vs (h.bytes_are ∙ ap (λ (t : List ℕ). h.head ++ t) r.bytes_are) h.is depth_left
      (subst (λ k. PackItems r.vs (d + 1) k r.front) m.0 r.packs) r.count (subst (λ k. Breaks (d + 1) (k + length r.front) r.rest f) m.0 r.here)

  map_refused : (value : Reader Tree) → d < 8 → IsTrueReader total (d + 1) value → IsFairReader total (d + 1) value → (n : ℕ) (rest : List ℕ) (f : PackError) → BeginsWith (heads.Map n) bytes rest
      → pairs_at value n rest ≡ Err f → Breaks d (place total bytes) bytes f
  map_refused value depth_left tells fair n rest f h e =
      let m = moved total bytes h.head rest h.bytes_are le in
      elim (pairs_refused total (d + 1) value tells fair n rest f m.1 e) [
        | inl r ↦
            in_key d (place total bytes) bytes f h.head r.front r.rest n r.ps (h.bytes_are ∙ ap (λ (t : List ℕ). h.head ++ t) r.bytes_are) h.is depth_left
            (subst (λ k. PackPairs r.ps (d + 1) k r.front) m.0 r.packs) r.count (subst (λ k. Breaks (d + 1) (k + length r.front) r.rest f) m.0 r.here)
        | inr r ↦
            in_value d (place total bytes) bytes f h.head r.front r.key r.rest n r.ps r.k (h.bytes_are ∙ ap (λ (t : List ℕ). h.head ++ t) r.bytes_are) h.is depth_left
            (subst (λ k. PackPairs r.ps (d + 1) k r.front) m.0 r.packs) r.count (subst (λ k. Packs r.k (d + 1) (k + length r.front) r.key) m.0 r.packed)
            (subst (λ k. Breaks (d + 1) (k + length r.front + length r.key) r.rest f) m.0 r.here)
      ]

  last_refused : (g : Head) (rest : List ℕ) (f : PackError) → 8 ≤ d → BeginsWith g bytes rest
      → parts_by (too_deep (place total bytes)) (too_deep (place total bytes)) (place total bytes) g rest ≡ Err f → Breaks d (place total bytes) bytes f
  last_refused heads.Nil rest f full h e = absurd cc
  last_refused (heads.Flag b) rest f full h e = absurd cc
  last_refused (heads.Int z) rest f full h e = absurd cc
  last_refused (heads.Raw n) rest f full h e = raw_refused n rest f h e
  last_refused (heads.Array n) rest f full h e = deep_array d (place total bytes) bytes f h.head rest n h.bytes_are h.is full (error_is {A = Tree × List ℕ} _ _ e)
  last_refused (heads.Map n) rest f full h e = deep_map d (place total bytes) bytes f h.head rest n h.bytes_are h.is full (error_is {A = Tree × List ℕ} _ _ e)

  items_only : (r : Result (Items × List ℕ) PackError) (f : PackError) → with_array (place total bytes) r ≡ Err f → r ≡ Err f
  items_only (Ok x) f e = absurd cc
  items_only (Err g) f e = let same : g ≡ f = cc in rw same refl

  pairs_only : (r : Result (Pairs × List ℕ) PackError) (f : PackError) → with_pairs (place total bytes) r ≡ Err f → r ≡ Err f
  pairs_only (Ok x) f e = absurd cc
  pairs_only (Err g) f e = let same : g ≡ f = cc in rw same refl

  inner_refused : (value : Reader Tree) → d < 8 → IsTrueReader total (d + 1) value → IsFairReader total (d + 1) value → (g : Head) (rest : List ℕ) (f : PackError) → BeginsWith g bytes rest
      → parts_by (items_at value) (pairs_at value) (place total bytes) g rest ≡ Err f → Breaks d (place total bytes) bytes f
  inner_refused value depth_left tells fair heads.Nil rest f h e = absurd cc
  inner_refused value depth_left tells fair (heads.Flag b) rest f h e = absurd cc
  inner_refused value depth_left tells fair (heads.Int z) rest f h e = absurd cc
  inner_refused value depth_left tells fair (heads.Raw n) rest f h e = raw_refused n rest f h e
  inner_refused value depth_left tells fair (heads.Array n) rest f h e = array_refused value depth_left tells fair n rest f h (items_only (items_at value n rest) f e)
  inner_refused value depth_left tells fair (heads.Map n) rest f h e = map_refused value depth_left tells fair n rest f h (pairs_only (pairs_at value n rest) f e)

-- what is refused breaks
pub value_refused : (depth_left total d : ℕ) → d + depth_left ≡ 8 → (bytes : List ℕ) (f : PackError) → length bytes ≤ total → value_at depth_left total bytes ≡ Err f → Breaks d (place total bytes) bytes f
unfolding value_at
value_refused zero total d sum bytes f le e =
    elim (bind_err (head_at total bytes) (λ h. parts_by (too_deep (place total bytes)) (too_deep (place total bytes)) (place total bytes) h.0 h.1) f e) [
      | inl bad ↦ head_refused d total bytes f bad
      | inr a ↦ last_refused total d bytes le a.0.0 a.0.1 f (omega arith) (head_back total bytes a.0 a.1) a.2
    ]
value_refused (suc depth_left) total d sum bytes f le e =
    elim (bind_err (head_at total bytes) (λ h. parts_by (items_at (value_at depth_left total)) (pairs_at (value_at depth_left total)) (place total bytes) h.0 h.1) f e) [
      | inl bad ↦ head_refused d total bytes f bad
      | inr a ↦ inner_refused total d bytes le (value_at depth_left total) (omega arith) (value_back depth_left total (d + 1) (omega arith)) (value_refused depth_left total (d + 1) (omega arith)) a.0.0 a.0.1 f (head_back total bytes a.0 a.1) a.2
    ]

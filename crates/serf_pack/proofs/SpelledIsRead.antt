-- If bytes spell a value, it is read.
use Rattle.serf_pack.proofs.Names.{List, Ok, [], ap, append_assoc, arith, false, length, length-append, nat_lt, refl, subst, suc, ℕ, ◌++◌, ◌+◌, ◌-◌, ◌∙◌, ◌∷◌, ◌≡◌, ◌≤◌, le-ltb, drop_at, take_at, big_number, big_from-append, BeginsWith, IsField, IsHead, PackItems, PackPairs, Packs, item_count, pair_count, Reader, head_by, place, head_at, items_at, pairs_at, value_at, row_of, Items, Pairs, Tree, array, flag, int, item, nil, no_items, no_pairs, pair, pairs, raw, Head, Row, Number, Unsupported, Whole}
use Rattle.serf_pack.specs.declared.head.Head.TheVariants as heads
use Rattle.serf_pack.proofs.ByHead.{read_nil, read_flag, read_int, read_raw, read_array, read_map}

field_read : (p : ℕ) (r : Row) (b : ℕ) (field rest : List ℕ) (h : Head) → IsField r field h → head_by p r b (field ++ rest) ≡ Ok (h, rest)
field_read p (Whole g) b field rest h is = rw (is.0, is.1) refl
field_read p (Number f w) b field rest h is =
    let long : nat_lt (length (field ++ rest)) w ≡ false = le-ltb _ _ (omega (arith, length-append field rest, is.0)) in
    let number : big_number w (field ++ rest) ≡ big_number w field = big_from-append w field rest (omega (arith, is.0)) in
    rw (long, number, drop_at field rest w is.0, is.1) refl
field_read p Unsupported b field rest h is = absurd is

-- a head is read, whatever follows
pub head_read : (total : ℕ) (head rest : List ℕ) (h : Head) → IsHead head h → head_at total (head ++ rest) ≡ Ok (h, rest)
unfolding head_at
head_read total [] rest h is = absurd is
head_read total (b ∷ field) rest h is = field_read (place total (b ∷ (field ++ rest))) (row_of b) b field rest h is

pub head_begins : (total : ℕ) (bytes rest : List ℕ) (h : Head) → BeginsWith h bytes rest → head_at total bytes ≡ Ok (h, rest)
head_begins total bytes rest h b = ap (head_at total) b.bytes_are ∙ head_read total b.head rest h b.is

-- ---- one part after another

items_cons : (value : Reader Tree) (n : ℕ) (bytes middle after : List ℕ) (v : Tree) (vs : Items) → value bytes ≡ Ok (v, middle) → items_at value n middle ≡ Ok (vs, after) → items_at value (suc n) bytes ≡ Ok (item v vs, after)
unfolding items_at
items_cons value n bytes middle after v vs e f = rw (e, f) refl

items_nil : (value : Reader Tree) (bytes : List ℕ) → items_at value 0 bytes ≡ Ok (no_items, bytes)
unfolding items_at
items_nil value bytes = refl

pairs_cons : (value : Reader Tree) (n : ℕ) (bytes following middle after : List ℕ) (k v : Tree) (ps : Pairs) → value bytes ≡ Ok (k, following) → value following ≡ Ok (v, middle) → pairs_at value n middle ≡ Ok (ps, after) → pairs_at value (suc n) bytes ≡ Ok (pair k v ps, after)
unfolding pairs_at
pairs_cons value n bytes following middle after k v ps e g f = rw (e, g, f) refl

pairs_nil : (value : Reader Tree) (bytes : List ℕ) → pairs_at value 0 bytes ≡ Ok (no_pairs, bytes)
unfolding pairs_at
pairs_nil value bytes = refl

-- ---- a part of the input: its bytes, what follows them, and its place

pub record IsPart (total : ℕ) (text rest head parts : List ℕ) : Type 0 where
  pub bytes : text ++ rest ≡ head ++ (parts ++ rest)
  pub within : length (parts ++ rest) ≤ total
  pub place_is : place total (text ++ rest) + length head ≡ place total (parts ++ rest)

pub part : (total : ℕ) (text rest head parts : List ℕ) → text ≡ head ++ parts → length (text ++ rest) ≤ total → IsPart total text rest head parts
part total text rest head parts e le =
    let same : text ++ rest ≡ head ++ (parts ++ rest) = ap (λ (t : List ℕ). t ++ rest) e ∙ append_assoc head parts rest in
    let lengths : length (text ++ rest) ≡ length head + length (parts ++ rest) = ap length same ∙ length-append head (parts ++ rest) in
    record { bytes = same; within = omega arith; place_is = omega arith }

mutual
  pub value_read : (v : Tree) (d depth_left total : ℕ) (text rest : List ℕ) → d + depth_left ≡ 8 → length (text ++ rest) ≤ total → Packs v d (place total (text ++ rest)) text → value_at depth_left total (text ++ rest) ≡ Ok (v, rest)
  value_read (nil q) d depth_left total text rest e le h = rw h.0 (read_nil depth_left total (text ++ rest) rest (head_read total text rest _ h.1))
  value_read (flag q b) d depth_left total text rest e le h = rw h.0 (read_flag depth_left total (text ++ rest) rest b (head_read total text rest _ h.1))
  value_read (int q z) d depth_left total text rest e le h = rw h.0 (read_int depth_left total (text ++ rest) rest z (head_read total text rest _ h.1))
  value_read (raw q s) d depth_left total text rest e le h =
      let p = part total text rest h.1 s h.3 le in
      let head : head_at total (text ++ rest) ≡ Ok (heads.Raw (length s), s ++ rest) = rw p.bytes (head_read total h.1 (s ++ rest) _ h.2) in
      let all = read_raw depth_left total (text ++ rest) (s ++ rest) (length s) head (omega (arith, length-append s rest)) in
      rw h.0 (all ∙ rw (take_at s rest (length s) refl, drop_at s rest (length s) refl) refl)
  value_read (array q vs) d depth_left total text rest e le h =
      let p = part total text rest h.2 h.3 h.5 le in
      let head : head_at total (text ++ rest) ≡ Ok (heads.Array (item_count vs), h.3 ++ rest) = rw p.bytes (head_read total h.2 (h.3 ++ rest) _ h.4) in
      let parts = items_read vs (d + 1) (depth_left - 1) total h.3 rest (omega (arith, h.1)) p.within (subst (λ k. PackItems vs (d + 1) k h.3) p.place_is h.6) in
      rw h.0 (read_array depth_left total (text ++ rest) (h.3 ++ rest) (item_count vs) vs rest (omega (arith, h.1)) head parts)
  value_read (pairs q ps) d depth_left total text rest e le h =
      let p = part total text rest h.2 h.3 h.5 le in
      let head : head_at total (text ++ rest) ≡ Ok (heads.Map (pair_count ps), h.3 ++ rest) = rw p.bytes (head_read total h.2 (h.3 ++ rest) _ h.4) in
      let parts = pairs_read ps (d + 1) (depth_left - 1) total h.3 rest (omega (arith, h.1)) p.within (subst (λ k. PackPairs ps (d + 1) k h.3) p.place_is h.6) in
      rw h.0 (read_map depth_left total (text ++ rest) (h.3 ++ rest) (pair_count ps) ps rest (omega (arith, h.1)) head parts)

  items_read : (vs : Items) (d depth_left total : ℕ) (text rest : List ℕ) → d + depth_left ≡ 8 → length (text ++ rest) ≤ total → PackItems vs d (place total (text ++ rest)) text → items_at (value_at depth_left total) (item_count vs) (text ++ rest) ≡ Ok (vs, rest)
  items_read no_items d depth_left total text rest e le h = rw h (items_nil (value_at depth_left total) rest)
  items_read (item v vs) d depth_left total text rest e le h =
      let p = part total text rest h.0 h.1 h.2 le in
      let first = value_read v d depth_left total h.0 (h.1 ++ rest) e (rw p.bytes at le) (subst (λ (t : List ℕ). Packs v d (place total t) h.0) p.bytes h.3) in
      let others = items_read vs d depth_left total h.1 rest e p.within (subst (λ k. PackItems vs d k h.1) p.place_is h.4) in
      rw p.bytes (items_cons (value_at depth_left total) (item_count vs) (h.0 ++ (h.1 ++ rest)) (h.1 ++ rest) rest v vs first others)

  pairs_read : (ps : Pairs) (d depth_left total : ℕ) (text rest : List ℕ) → d + depth_left ≡ 8 → length (text ++ rest) ≤ total → PackPairs ps d (place total (text ++ rest)) text → pairs_at (value_at depth_left total) (pair_count ps) (text ++ rest) ≡ Ok (ps, rest)
  pairs_read no_pairs d depth_left total text rest e le h = rw h (pairs_nil (value_at depth_left total) rest)
  pairs_read (pair k v ps) d depth_left total text rest e le h =
      let p = part total text rest h.0 (h.1 ++ h.2) (h.3 ∙ append_assoc h.0 h.1 h.2) le in
      let q = part total (h.1 ++ h.2) rest h.1 h.2 refl p.within in
      let key = value_read k d depth_left total h.0 ((h.1 ++ h.2) ++ rest) e (rw p.bytes at le) (subst (λ (t : List ℕ). Packs k d (place total t) h.0) p.bytes h.4) in
      let value = value_read v d depth_left total h.1 (h.2 ++ rest) e (rw q.bytes at p.within) (subst (λ (t : List ℕ). Packs v d (place total t) h.1) q.bytes (subst (λ n. Packs v d n h.1) p.place_is h.5)) in
      let others = pairs_read ps d depth_left total h.2 rest e q.within (subst (λ n. PackPairs ps d n h.2) (ap (λ n. n + length h.1) p.place_is ∙ q.place_is) h.6) in
      rw p.bytes (pairs_cons (value_at depth_left total) (pair_count ps) (h.0 ++ ((h.1 ++ h.2) ++ rest)) ((h.1 ++ h.2) ++ rest) (h.2 ++ rest) rest k v ps key (rw q.bytes value) others)

-- If a value is read, the bytes spell it.
use Rattle.serf_pack.proofs.Names.{Err, List, Ok, [], ap, append_assoc, arith, cond, drop, length, length-append, nat_lt, refl, subst, suc, sym, take, zero, ℕ, ◌++◌, ◌+◌, ◌<◌, ◌∙◌, ◌∷◌, ◌≡◌, ◌≤◌, ltb-false, length-take, big_number, big_from-append, BeginsWith, IsField, IsHead, PackItems, PackPairs, Packs, item_count, pair_count, Reader, head_by, parts_by, place, too_deep, ◌>>=◌, head_at, items_at, pairs_at, value_at, meaning_of, row_of, Items, Pairs, Tree, array, flag, int, item, nil, no_items, no_pairs, pair, pairs, raw, Truncated, Head, Row, Number, Unsupported, Whole}
use Rattle.std.proofs.lemmas.List.{take-append-drop}
use Rattle.serf_pack.specs.declared.head.Head.TheVariants as heads
use Rattle.serf_pack.proofs.Steps.{done, ok_is, bind_ok, guard_ok}

-- ---- heads

record IsFieldOf (r : Row) (bytes rest : List ℕ) (h : Head) : Type 0 where
  field : List ℕ
  bytes_are : bytes ≡ field ++ rest
  is : IsField r field h

field_back : (p : ℕ) (r : Row) (b : ℕ) (bytes : List ℕ) (x : Head × List ℕ) → head_by p r b bytes ≡ Ok x → IsFieldOf r bytes x.1 x.0
field_back p (Whole g) b bytes x e =
    subst (λ (y : Head × List ℕ). IsFieldOf (Whole g) bytes y.1 y.0) (ok_is (g, bytes) x e) (record { field = []; bytes_are = refl; is = (refl, refl) })
field_back p (Number f w) b bytes x e =
    let g = guard_ok (nat_lt (length bytes) w) (Truncated p) (meaning_of f w (big_number w bytes), drop w bytes) x e in
    let long : w ≤ length bytes = ltb-false _ _ g.0 in
    let len : length (take w bytes) ≡ w = omega (arith, length-take w bytes) in
    let split : bytes ≡ take w bytes ++ drop w bytes = sym (take-append-drop w bytes) in
    let number : big_number w bytes ≡ big_number w (take w bytes) = ap (big_number w) split ∙ big_from-append w (take w bytes) (drop w bytes) (omega arith) in
    subst (λ (y : Head × List ℕ). IsFieldOf (Number f w) bytes y.1 y.0) g.1 (record { field = take w bytes; bytes_are = split; is = (len, ap (meaning_of f w) number) })
field_back p Unsupported b bytes x e = absurd cc

pub head_back : (total : ℕ) (bytes : List ℕ) (x : Head × List ℕ) → head_at total bytes ≡ Ok x → BeginsWith x.0 bytes x.1
unfolding head_at
head_back total [] x e = absurd cc
head_back total (b ∷ bytes) x e =
    let f = field_back (place total (b ∷ bytes)) (row_of b) b bytes x e in
    record { head = b ∷ f.field; bytes_are = ap (λ (t : List ℕ). b ∷ t) f.bytes_are; is = f.is }

-- ---- values

pub record Spelled (total d : ℕ) (bytes : List ℕ) (v : Tree) (rest : List ℕ) : Type 0 where
  pub text : List ℕ
  pub bytes_are : bytes ≡ text ++ rest
  pub packs : Packs v d (place total bytes) text

record SpelledItems (total d n : ℕ) (bytes : List ℕ) (vs : Items) (rest : List ℕ) : Type 0 where
  text : List ℕ
  bytes_are : bytes ≡ text ++ rest
  packs : PackItems vs d (place total bytes) text
  count : item_count vs ≡ n

record SpelledPairs (total d n : ℕ) (bytes : List ℕ) (ps : Pairs) (rest : List ℕ) : Type 0 where
  text : List ℕ
  bytes_are : bytes ≡ text ++ rest
  packs : PackPairs ps d (place total bytes) text
  count : pair_count ps ≡ n

-- a reader returns only what the bytes spell
abbrev pub IsTrueReader : ℕ → ℕ → Reader Tree → Type 0
IsTrueReader total d value = (bytes : List ℕ) (x : Tree × List ℕ) → length bytes ≤ total → value bytes ≡ Ok x → Spelled total d bytes x.0 x.1

pub moved : (total : ℕ) (bytes front rest : List ℕ) → bytes ≡ front ++ rest → length bytes ≤ total → (place total rest ≡ place total bytes + length front) × (length rest ≤ total)
moved total bytes front rest e le =
    let lengths : length bytes ≡ length front + length rest = ap length e ∙ length-append front rest in
    (omega arith, omega arith)

items_back : (total d : ℕ) (value : Reader Tree) → IsTrueReader total d value → (n : ℕ) (bytes : List ℕ) (x : Items × List ℕ) → length bytes ≤ total → items_at value n bytes ≡ Ok x → SpelledItems total d n bytes x.0 x.1
unfolding items_at
items_back total d value tells zero bytes x le e =
    subst (λ (y : Items × List ℕ). SpelledItems total d 0 bytes y.0 y.1) (ok_is (no_items, bytes) x e) (record { text = []; bytes_are = refl; packs = refl; count = refl })
items_back total d value tells (suc n) bytes x le e =
    let a = bind_ok (value bytes) (λ v. items_at value n v.1 >>= λ vs. Ok (item v.0 vs.0, vs.1)) x e in
    let b = bind_ok (items_at value n a.0.1) (λ vs. Ok (item a.0.0 vs.0, vs.1)) x a.2 in
    let first = tells bytes a.0 le a.1 in
    let m = moved total bytes first.text a.0.1 first.bytes_are le in
    let others = items_back total d value tells n a.0.1 b.0 m.1 b.1 in
    subst (λ (y : Items × List ℕ). SpelledItems total d (suc n) bytes y.0 y.1) (ok_is (item a.0.0 b.0.0, b.0.1) x b.2) (record {
      text = first.text ++ others.text;
      bytes_are = first.bytes_are ∙ ap (λ (t : List ℕ). first.text ++ t) others.bytes_are ∙ sym (append_assoc first.text others.text b.0.1);
      packs = (first.text, others.text, refl, first.packs, subst (λ k. PackItems b.0.0 d k others.text) m.0 others.packs);
      count = ap suc others.count;
    })

pairs_back : (total d : ℕ) (value : Reader Tree) → IsTrueReader total d value → (n : ℕ) (bytes : List ℕ) (x : Pairs × List ℕ) → length bytes ≤ total → pairs_at value n bytes ≡ Ok x → SpelledPairs total d n bytes x.0 x.1
unfolding pairs_at
pairs_back total d value tells zero bytes x le e =
    subst (λ (y : Pairs × List ℕ). SpelledPairs total d 0 bytes y.0 y.1) (ok_is (no_pairs, bytes) x e) (record { text = []; bytes_are = refl; packs = refl; count = refl })
pairs_back total d value tells (suc n) bytes x le e =
    let a = bind_ok (value bytes) (λ k. value k.1 >>= λ v. pairs_at value n v.1 >>= λ ps. Ok (pair k.0 v.0 ps.0, ps.1)) x e in
    let b = bind_ok (value a.0.1) (λ v. pairs_at value n v.1 >>= λ ps. Ok (pair a.0.0 v.0 ps.0, ps.1)) x a.2 in
    let c = bind_ok (pairs_at value n b.0.1) (λ ps. Ok (pair a.0.0 b.0.0 ps.0, ps.1)) x b.2 in
    let key = tells bytes a.0 le a.1 in
    let m = moved total bytes key.text a.0.1 key.bytes_are le in
    let second = tells a.0.1 b.0 m.1 b.1 in
    let k = moved total a.0.1 second.text b.0.1 second.bytes_are m.1 in
    let others = pairs_back total d value tells n b.0.1 c.0 k.1 c.1 in
    subst (λ (y : Pairs × List ℕ). SpelledPairs total d (suc n) bytes y.0 y.1) (ok_is (pair a.0.0 b.0.0 c.0.0, c.0.1) x c.2) (record {
      text = key.text ++ second.text ++ others.text;
      bytes_are = key.bytes_are ∙ ap (λ (t : List ℕ). key.text ++ t) (second.bytes_are ∙ ap (λ (t : List ℕ). second.text ++ t) others.bytes_are) ∙ simp append_assoc;
      packs = (key.text, second.text, others.text, refl, key.packs, subst (λ n. Packs b.0.0 d n second.text) m.0 second.packs, subst (λ n. PackPairs c.0.0 d n others.text) (k.0 ∙ ap (λ n. n + length second.text) m.0) others.packs);
      count = ap suc others.count;
    })

-- what follows a head
module _ (total d : ℕ) (bytes : List ℕ) (le : length bytes ≤ total) where
  array_back : (value : Reader Tree) → d < 8 → IsTrueReader total (d + 1) value → (n : ℕ) (rest : List ℕ) (x : Tree × List ℕ) → BeginsWith (heads.Array n) bytes rest
      → (items_at value n rest >>= λ vs. Ok (array (place total bytes) vs.0, vs.1)) ≡ Ok x → Spelled total d bytes x.0 x.1
  array_back value depth_left tells n rest x h e =
      let a = bind_ok (items_at value n rest) (λ vs. Ok (array (place total bytes) vs.0, vs.1)) x e in
      let m = moved total bytes h.head rest h.bytes_are le in
      let parts = items_back total (d + 1) value tells n rest a.0 m.1 a.1 in
      subst (λ (y : Tree × List ℕ). Spelled total d bytes y.0 y.1) (ok_is (array (place total bytes) a.0.0, a.0.1) x a.2) (record {
        text = h.head ++ parts.text;
        bytes_are = h.bytes_are ∙ ap (λ (t : List ℕ). h.head ++ t) parts.bytes_are ∙ sym (append_assoc h.head parts.text a.0.1);
        packs = (refl, depth_left, h.head, parts.text, subst (λ k. IsHead h.head (heads.Array k)) (sym parts.count) h.is, refl, subst (λ k. PackItems a.0.0 (d + 1) k parts.text) m.0 parts.packs);
      })

  map_back : (value : Reader Tree) → d < 8 → IsTrueReader total (d + 1) value → (n : ℕ) (rest : List ℕ) (x : Tree × List ℕ) → BeginsWith (heads.Map n) bytes rest
      → (pairs_at value n rest >>= λ ps. Ok (pairs (place total bytes) ps.0, ps.1)) ≡ Ok x → Spelled total d bytes x.0 x.1
  map_back value depth_left tells n rest x h e =
      let a = bind_ok (pairs_at value n rest) (λ ps. Ok (pairs (place total bytes) ps.0, ps.1)) x e in
      let m = moved total bytes h.head rest h.bytes_are le in
      let parts = pairs_back total (d + 1) value tells n rest a.0 m.1 a.1 in
      subst (λ (y : Tree × List ℕ). Spelled total d bytes y.0 y.1) (ok_is (pairs (place total bytes) a.0.0, a.0.1) x a.2) (record {
        text = h.head ++ parts.text;
        bytes_are = h.bytes_are ∙ ap (λ (t : List ℕ). h.head ++ t) parts.bytes_are ∙ sym (append_assoc h.head parts.text a.0.1);
        packs = (refl, depth_left, h.head, parts.text, subst (λ k. IsHead h.head (heads.Map k)) (sym parts.count) h.is, refl, subst (λ k. PackPairs a.0.0 (d + 1) k parts.text) m.0 parts.packs);
      })

  raw_back : (n : ℕ) (rest : List ℕ) (x : Tree × List ℕ) → BeginsWith (heads.Raw n) bytes rest
      → cond (nat_lt (length rest) n) (Err (Truncated (place total bytes))) (Ok (raw (place total bytes) (take n rest), drop n rest)) ≡ Ok x → Spelled total d bytes x.0 x.1
  raw_back n rest x h e =
      let g = guard_ok (nat_lt (length rest) n) (Truncated (place total bytes)) (raw (place total bytes) (take n rest), drop n rest) x e in
      let long : n ≤ length rest = ltb-false _ _ g.0 in
      let len : length (take n rest) ≡ n = omega (arith, length-take n rest) in
      subst (λ (y : Tree × List ℕ). Spelled total d bytes y.0 y.1) g.1 (record {
        text = h.head ++ take n rest;
        bytes_are = h.bytes_are ∙ ap (λ (t : List ℕ). h.head ++ t) (sym (take-append-drop n rest)) ∙ sym (append_assoc h.head (take n rest) (drop n rest));
        packs = (refl, h.head, subst (λ k. IsHead h.head (heads.Raw k)) (sym len) h.is, refl);
      })

  plain_back : (h : Head) (v : Tree) (rest : List ℕ) (x : Tree × List ℕ) → BeginsWith h bytes rest → ((head : List ℕ) → IsHead head h → Packs v d (place total bytes) head) → done (v, rest) ≡ Ok x → Spelled total d bytes x.0 x.1
  plain_back g v rest x h packs e = subst (λ (y : Tree × List ℕ). Spelled total d bytes y.0 y.1) (ok_is (v, rest) x e) (record { text = h.head; bytes_are = h.bytes_are; packs = packs h.head h.is })

  -- if no further container may be nested
  last_back : (g : Head) (rest : List ℕ) (x : Tree × List ℕ) → BeginsWith g bytes rest
      → parts_by (too_deep (place total bytes)) (too_deep (place total bytes)) (place total bytes) g rest ≡ Ok x → Spelled total d bytes x.0 x.1
  last_back heads.Nil rest x h e = plain_back heads.Nil (nil (place total bytes)) rest x h (λ t is. (refl, is)) e
  last_back (heads.Flag b) rest x h e = plain_back (heads.Flag b) (flag (place total bytes) b) rest x h (λ t is. (refl, is)) e
  last_back (heads.Int z) rest x h e = plain_back (heads.Int z) (int (place total bytes) z) rest x h (λ t is. (refl, is)) e
  last_back (heads.Raw n) rest x h e = raw_back n rest x h e
  last_back (heads.Array n) rest x h e = absurd cc
  last_back (heads.Map n) rest x h e = absurd cc

  inner_back : (value : Reader Tree) → d < 8 → IsTrueReader total (d + 1) value → (g : Head) (rest : List ℕ) (x : Tree × List ℕ) → BeginsWith g bytes rest
      → parts_by (items_at value) (pairs_at value) (place total bytes) g rest ≡ Ok x → Spelled total d bytes x.0 x.1
  inner_back value depth_left tells heads.Nil rest x h e = plain_back heads.Nil (nil (place total bytes)) rest x h (λ t is. (refl, is)) e
  inner_back value depth_left tells (heads.Flag b) rest x h e = plain_back (heads.Flag b) (flag (place total bytes) b) rest x h (λ t is. (refl, is)) e
  inner_back value depth_left tells (heads.Int z) rest x h e = plain_back (heads.Int z) (int (place total bytes) z) rest x h (λ t is. (refl, is)) e
  inner_back value depth_left tells (heads.Raw n) rest x h e = raw_back n rest x h e
  inner_back value depth_left tells (heads.Array n) rest x h e = array_back value depth_left tells n rest x h e
  inner_back value depth_left tells (heads.Map n) rest x h e = map_back value depth_left tells n rest x h e

-- what is read is spelled
pub value_back : (depth_left total d : ℕ) → d + depth_left ≡ 8 → IsTrueReader total d (value_at depth_left total)
unfolding value_at
value_back zero total d sum bytes x le e =
    let a = bind_ok (head_at total bytes) (λ h. parts_by (too_deep (place total bytes)) (too_deep (place total bytes)) (place total bytes) h.0 h.1) x e in
    last_back total d bytes le a.0.0 a.0.1 x (head_back total bytes a.0 a.1) a.2
value_back (suc depth_left) total d sum bytes x le e =
    let a = bind_ok (head_at total bytes) (λ h. parts_by (items_at (value_at depth_left total)) (pairs_at (value_at depth_left total)) (place total bytes) h.0 h.1) x e in
    inner_back total d bytes le (value_at depth_left total) (omega arith) (value_back depth_left total (d + 1) (omega arith)) a.0.0 a.0.1 x (head_back total bytes a.0 a.1) a.2

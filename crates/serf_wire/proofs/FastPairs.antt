-- The pairs of a map in compact spellings, one after another.
use Rattle.serf_wire.proofs.Names.{IfSome, List, None, Option, Some, [], ap, append-nil, append_assoc, arith, cond, false, length, lit<, refl, subst, suc, sym, true, unwrap_or, ℕ, ◌++◌, ◌+◌, ◌-◌, ◌<◌, ◌∙◌, ◌∷◌, ◌≡◌, ◌≤◌, raw_bytes, raw_head, IsHead, PackPairs, Packs, pair_count, Pairs, Tree, nil, no_pairs, pair, pairs, raw, pair_list, Below, Extends, IsReadSoFar, Reads, ReadsIn, Shows, is_key, number, sole, values_of, HasRawKeys}
use Rattle.serf_pack.specs.declared.head.Head.TheVariants as heads
use Rattle.serf_wire.proofs.FastReading.{narrower, anywhere, map_row}

pub if_some : {X : Type 0} (r : Option X) (P Q : X → Type 0) → ((x : X) → P x → Q x) → IfSome r P → IfSome r Q
if_some None P Q f p = tt
if_some (Some x) P Q f p = f x p

-- ---- one more pair

record IsLonger (ps : Pairs) (d p : ℕ) (bytes name : List ℕ) (value : ℕ → Tree) : Type 0 where
  longer : Pairs
  packs : PackPairs longer d p bytes
  count : pair_count longer ≡ suc (pair_count ps)
  at_key : ℕ
  at_value : ℕ
  list : pair_list longer ≡ pair_list ps ++ (raw at_key name, value at_value) ∷ []

module _ (d : ℕ) (name text : List ℕ) (value : ℕ → Tree) (short : length name < 4294967296) (is : (p : ℕ) → Packs (value p) d p text) where
  one_more : Below → (ps : Pairs) (p : ℕ) (bytes : List ℕ) → PackPairs ps d p bytes → IsLonger ps d p (bytes ++ (raw_bytes name ++ text)) name value
  one_more below no_pairs p bytes packs = record {
    longer = pair (raw p name) (value (p + length (raw_bytes name))) no_pairs;
    packs = (raw_bytes name, text, [], ap (λ b. b ++ (raw_bytes name ++ text)) packs ∙ sym (append-nil (raw_bytes name ++ text)), (refl, raw_head (length name), below.heads.raw (length name) short, refl), is (p + length (raw_bytes name)), refl);
    count = refl;
    at_key = p;
    at_value = p + length (raw_bytes name);
    list = refl;
  }
  one_more below (pair k v ps) p bytes packs =
      let more = one_more below ps (p + length packs.0 + length packs.1) packs.2 packs.6 in
      record {
        longer = pair k v more.longer;
        packs = (packs.0, packs.1, packs.2 ++ (raw_bytes name ++ text), ap (λ b. b ++ (raw_bytes name ++ text)) packs.3 ∙ append_assoc (packs.0 ++ packs.1) packs.2 (raw_bytes name ++ text), packs.4, packs.5, more.packs);
        count = ap suc more.count;
        at_key = more.at_key;
        at_value = more.at_value;
        list = ap (λ l. (k, v) ∷ l) more.list;
      }

module _ {F : Type 0} (IsSoFar : F → List (Tree × Tree) → Type 0) where
  pub nothing_read : (found : F) (bytes : List ℕ) → IsSoFar found [] → IsReadSoFar IsSoFar found 0 bytes bytes
  nothing_read found bytes is = record { pairs = no_pairs; text = []; bytes_are = refl; packs = refl; count = refl; is = is }

  pub more_read : Below → (old new : F) (n : ℕ) (bytes mid rest : List ℕ) → IsReadSoFar IsSoFar old n bytes mid → Extends IsSoFar old new mid rest → IsReadSoFar IsSoFar new (n + 1) bytes rest
  more_read below old new n bytes mid rest r e =
      let m = one_more 1 e.name e.text e.value e.short e.packs below r.pairs 1 r.text r.packs in
      let count : pair_count m.longer ≡ n + 1 = omega (arith, m.count, r.count) in
      record {
        pairs = m.longer;
        text = r.text ++ (raw_bytes e.name ++ e.text);
        bytes_are = r.bytes_are ∙ ap (λ b. r.text ++ b) (e.bytes_are ∙ sym (append_assoc (raw_bytes e.name) e.text rest)) ∙ sym (append_assoc r.text (raw_bytes e.name ++ e.text) rest);
        packs = m.packs;
        count = count;
        is = subst (IsSoFar new) (sym m.list) (e.found m.at_key m.at_value (pair_list r.pairs) r.is);
      }

-- ---- the values after keys

values_push : (name : List ℕ) (ps : List (Tree × Tree)) (p : Tree × Tree) → values_of name (ps ++ p ∷ []) ≡ values_of name ps ++ values_of name (p ∷ [])
values_push name [] p = refl
values_push name (q ∷ ps) p =
    elim (is_key name q.0) as (λ b. cond b (q.1 ∷ values_of name (ps ++ p ∷ [])) (values_of name (ps ++ p ∷ [])) ≡ cond b (q.1 ∷ values_of name ps) (values_of name ps) ++ values_of name (p ∷ []))
    [ true ↦ ap (λ vs. q.1 ∷ vs) (values_push name ps p) | false ↦ values_push name ps p ]

pub keys_push : (ps : List (Tree × Tree)) (q : ℕ) (name : List ℕ) (v : Tree) → HasRawKeys ps → HasRawKeys (ps ++ (raw q name, v) ∷ [])
keys_push [] q name v keys = (refl, tt)
keys_push (p ∷ ps) q name v keys = (keys.0, keys_push ps q name v keys.1)

pub kept : {A : Type 0} (meaning : Tree → Option A) (o : Option A) (name : List ℕ) (ps : List (Tree × Tree)) (k v : Tree) → is_key name k ≡ false → Shows meaning o (values_of name ps) → Shows meaning o (values_of name (ps ++ (k, v) ∷ []))
kept meaning o name ps k v other shows =
    let same : values_of name (ps ++ (k, v) ∷ []) ≡ values_of name ps = values_push name ps (k, v) ∙ rw other (append-nil (values_of name ps)) in
    subst (Shows meaning o) (sym same) shows

pub added : {A : Type 0} (meaning : Tree → Option A) (o : Option A) (x : A) (name : List ℕ) (ps : List (Tree × Tree)) (k v : Tree) → is_key name k ≡ true → o ≡ None → meaning v ≡ Some x → Shows meaning o (values_of name ps) → Shows meaning (Some x) (values_of name (ps ++ (k, v) ∷ []))
added meaning None x name ps k v own none means shows = (v, values_push name ps (k, v) ∙ rw (shows, own) refl, means)
added meaning (Some y) x name ps k v own none means shows = absurd cc

-- a pair that adds a field to what was found
pub part_pair_read : {A F : Type 0} (IsSoFar : F → List (Tree × Tree) → Type 0) (old new : F) (name : List ℕ) (limit : ℕ) (meaning : Tree → Option A) (x : A) (bytes value rest : List ℕ) → length name < 4294967296 → 1 < limit → bytes ≡ raw_bytes name ++ value → ReadsIn limit meaning x value rest
    → ((p : ℕ) (v : Tree) (ps : List (Tree × Tree)) → meaning v ≡ Some x → IsSoFar old ps → IsSoFar new (ps ++ (raw p name, v) ∷ [])) → Extends IsSoFar old new bytes rest
part_pair_read IsSoFar old new name limit meaning x bytes value rest short room e reads finds = record {
  name = name;
  short = short;
  value = reads.tree;
  text = reads.front;
  bytes_are = e ∙ ap (λ v. raw_bytes name ++ v) reads.bytes_are;
  packs = λ p. reads.packs 1 p room;
  found = λ p q ps s. finds p (reads.tree q) ps (reads.means q) s;
}

pub pair_read : {A F : Type 0} (IsSoFar : F → List (Tree × Tree) → Type 0) (old new : F) (name : List ℕ) (meaning : Tree → Option A) (x : A) (bytes value rest : List ℕ) → length name < 4294967296 → bytes ≡ raw_bytes name ++ value → Reads meaning x value rest
    → ((p : ℕ) (v : Tree) (ps : List (Tree × Tree)) → meaning v ≡ Some x → IsSoFar old ps → IsSoFar new (ps ++ (raw p name, v) ∷ [])) → Extends IsSoFar old new bytes rest
pair_read IsSoFar old new name meaning x bytes value rest short e reads finds = part_pair_read IsSoFar old new name 2 meaning x bytes value rest short (lit< tt) e (anywhere 2 meaning x value rest reads) finds

-- ---- the whole map

pub sole_shown : {A : Type 0} (meaning : Tree → Option A) (zero : A) (o : Option A) (vs : List Tree) → meaning (nil 0) ≡ Some zero → Shows meaning o vs → sole meaning vs ≡ Some (unwrap_or o zero)
sole_shown meaning zero None vs nil_is shows = rw shows nil_is
sole_shown meaning zero (Some x) vs nil_is shows = rw shows.1 shows.2

pub narrow_sole : (max n limit : ℕ) (vs : List Tree) → sole (number max) vs ≡ Some n → n ≤ limit → sole (number limit) vs ≡ Some n
narrow_sole max n limit [] e le = e
narrow_sole max n limit (v ∷ []) e le = narrower v max n limit e le
narrow_sole max n limit (v ∷ w ∷ vs) e le = absurd cc

pub map_packs : (n : ℕ) (bytes : List ℕ) (ps : Pairs) → n < 16 → pair_count ps ≡ n → PackPairs ps 1 1 bytes → Packs (pairs 0 ps) 0 0 ((128 + n) ∷ bytes)
map_packs n bytes ps lt count packs =
    let same : (128 + n) - 128 ≡ pair_count ps = omega (arith, count) in
    let head : IsHead ((128 + n) ∷ []) (heads.Map (pair_count ps)) = rw (map_row (128 + n) (omega arith) (omega arith)) (refl, ap (λ k. heads.Map k) (sym same)) in
    (refl, lit< tt, (128 + n) ∷ [], bytes, head, refl, packs)

pub none_left : (end : List ℕ) → length end ≡ 0 → end ≡ []
none_left [] e = refl
none_left (x ∷ xs) e = absurd cc

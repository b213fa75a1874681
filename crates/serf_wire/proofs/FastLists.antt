-- Lists at the start of bytes.
use Rattle.serf_wire.proofs.Names.{List, Ok, Option, Some, [], ap, append-nil, append_assoc, arith, length, length-append, map, refl, subst, sym, take, ℕ, ◌++◌, ◌+◌, ◌-◌, ◌<◌, ◌∙◌, ◌∷◌, ◌≡◌, ◌≤◌, length_push, take_at, flat_map, IsHead, Packs, head_at, Tree, array, nil, no_items, PacksAlone, Below, AreItems, AreParts, Item, ReadsIn, Spans, list, text, WireError}
use Rattle.serf_pack.specs.declared.head.Head.TheVariants as heads
use Rattle.serf_wire.proofs.Spelling.{Part, items_from, count_items, items_pack, all_read, all_true}
use Rattle.serf_wire.proofs.Meanings.{IsExact}
use Rattle.serf_wire.proofs.FastReading.{anywhere, nil_front}

-- ---- no items

-- nil, for any kind
pub nil_reads : {A : Type 0} (limit : ℕ) (meaning : Tree → Option A) (x : A) (bytes rest : List ℕ) → ((p : ℕ) → meaning (nil p) ≡ Some x) → bytes ≡ 0xc0 ∷ rest → ReadsIn limit meaning x bytes rest
nil_reads limit meaning x bytes rest means e = record { front = 0xc0 ∷ []; tree = nil; bytes_are = e; packs = λ d p room. (refl, (refl, refl)); means = means }

pub nil_spans : {A : Type 0} (limit : ℕ) (meaning : Tree → Option A) (x : A) (bytes rest : List ℕ) → ((p : ℕ) → meaning (nil p) ≡ Some x) → bytes ≡ 0xc0 ∷ rest → Spans limit meaning bytes rest
nil_spans limit meaning x bytes rest means e = record { value = x; reads = nil_reads limit meaning x bytes rest means e }

pub nil_texts : Below → (bytes rest : List ℕ) → bytes ≡ 0xc0 ∷ rest → ReadsIn 8 (list text) [] bytes rest
nil_texts below bytes rest e = anywhere 8 (list text) [] bytes rest (nil_front below (list text) [] bytes rest (λ p. refl) e)

pub no_texts : (bytes rest : List ℕ) → bytes ≡ 0x90 ∷ rest → ReadsIn 8 (list text) [] bytes rest
no_texts bytes rest e = record { front = 0x90 ∷ []; tree = λ p. array p no_items; bytes_are = e; packs = λ d p room. (refl, room, 0x90 ∷ [], [], (refl, refl), refl, refl); means = λ p. refl }

-- ---- one more part

joined_push : {X : Type 0} (bytes_of : X → List ℕ) (parts : List X) (t : X) → flat_map bytes_of (parts ++ t ∷ []) ≡ flat_map bytes_of parts ++ bytes_of t
joined_push bytes_of [] t = append-nil (bytes_of t)
joined_push bytes_of (x ∷ parts) t = ap (λ r. bytes_of x ++ r) (joined_push bytes_of parts t) ∙ sym (append_assoc (bytes_of x) (flat_map bytes_of parts) (bytes_of t))

pub nothing_walked : {X : Type 0} (bytes_of : X → List ℕ) (bytes : List ℕ) → AreParts bytes_of 0 bytes bytes
nothing_walked bytes_of bytes = record { parts = []; bytes_are = refl; count = refl }

pub one_part_more : {X : Type 0} (bytes_of : X → List ℕ) (n : ℕ) (bytes mid rest : List ℕ) (t : X) → AreParts bytes_of n bytes mid → mid ≡ bytes_of t ++ rest → AreParts bytes_of (n + 1) bytes rest
one_part_more bytes_of n bytes mid rest t a e = record {
  parts = a.parts ++ t ∷ [];
  bytes_are = a.bytes_are ∙ ap (λ b. flat_map bytes_of a.parts ++ b) e ∙ sym (append_assoc (flat_map bytes_of a.parts) (bytes_of t) rest) ∙ ap (λ b. b ++ rest) (sym (joined_push bytes_of a.parts t));
  count = length_push a.parts t ∙ ap (λ m. m + 1) a.count;
}

abbrev pub item_of : {A : Type 0} (limit : ℕ) (meaning : Tree → Option A) (x : A) (bytes rest : List ℕ) → ReadsIn limit meaning x bytes rest → Item limit meaning
item_of limit meaning x bytes rest r = record { front = r.front; tree = r.tree; value = x; packs = r.packs; means = r.means }

pub one_item_more : {A : Type 0} (limit : ℕ) (meaning : Tree → Option A) (n : ℕ) (bytes mid rest : List ℕ) → AreItems limit meaning n bytes mid → Spans limit meaning mid rest → AreItems limit meaning (n + 1) bytes rest
one_item_more limit meaning n bytes mid rest a s = one_part_more (λ (t : Item limit meaning). t.front) n bytes mid rest (item_of limit meaning s.value mid rest s.reads) a s.reads.bytes_are

-- ---- the whole list

abbrev pub part_of : {A : Type 0} → (limit : ℕ) → (meaning : Tree → Option A) → Item limit meaning → Part
part_of limit meaning t = record { bytes = t.front; tree = t.tree }

module _ (below : Below) {A : Type 0} (limit : ℕ) (meaning : Tree → Option A) (bytes items rest : List ℕ) (small : limit ≤ 8) where
  pub list_reads : (n : ℕ) → head_at 0 bytes ≡ Ok (heads.Array n, items) → (a : AreItems (limit + 1) meaning n items rest) → ReadsIn limit (list meaning) (map (λ t. t.value) a.parts) bytes rest
  list_reads n e a =
      let h = (below.reading.head 0 bytes items (heads.Array n)).0 e in
      let all = all_true a.parts in record {
        front = h.head ++ flat_map (λ t. t.front) a.parts;
        tree = λ p. array p (items_from (part_of (limit + 1) meaning) (p + length h.head) a.parts);
        bytes_are = h.bytes_are ∙ ap (λ t. h.head ++ t) a.bytes_are ∙ sym (append_assoc h.head (flat_map (λ t. t.front) a.parts) rest);
        packs = λ d p room. (
          refl,
          omega arith,
          h.head,
          flat_map (λ t. t.front) a.parts,
          subst (λ m. IsHead h.head (heads.Array m)) (sym (count_items (part_of (limit + 1) meaning) (p + length h.head) a.parts ∙ a.count)) h.is,
          refl,
          items_pack (d + 1) (part_of (limit + 1) meaning) (λ t. Unit {0}) (λ t u q. t.packs (d + 1) q (omega arith)) a.parts all (p + length h.head),
        );
        means = λ p. all_read meaning (part_of (limit + 1) meaning) (λ t. t.value) (λ t. Unit {0}) (λ t u q. t.means q) a.parts all (p + length h.head);
      }

  pub list_spans : (n : ℕ) → head_at 0 bytes ≡ Ok (heads.Array n, items) → AreItems (limit + 1) meaning n items rest → Spans limit (list meaning) bytes rest
  list_spans n e a = record { value = map (λ t. t.value) a.parts; reads = list_reads n e a }

  -- a list of one
  pub only_reads : (x : A) → head_at 0 bytes ≡ Ok (heads.Array 1, items) → ReadsIn (limit + 1) meaning x items rest → ReadsIn limit (list meaning) (x ∷ []) bytes rest
  only_reads x e r = list_reads 1 e (record { parts = item_of (limit + 1) meaning x items rest r ∷ []; bytes_are = r.bytes_are ∙ ap (λ t. t ++ rest) (sym (append-nil r.front)); count = refl })

-- ---- a view of the list

module _ {A : Type 0} (limit : ℕ) (meaning : Tree → Option A) (bytes rest : List ℕ) (s : Spans limit meaning bytes rest) where
  lengths : length bytes ≡ length s.reads.front + length rest
  lengths = ap length s.reads.bytes_are ∙ length-append s.reads.front rest

  pub ends_after : length rest ≤ length bytes
  ends_after = omega (arith, lengths)

  walked_is : take (length bytes - length rest) bytes ≡ s.reads.front
  walked_is = ap (λ t. take (length bytes - length rest) t) s.reads.bytes_are ∙ take_at s.reads.front rest (length bytes - length rest) (omega (arith, lengths))

  pub borrowed_reads : (value : Tree → A) (errors : Tree → List WireError) (v : Tree) (x : A) → IsExact meaning value errors → 0 < limit → ((w : Tree) → Packs w 0 0 (take (length bytes - length rest) bytes) → v ≡ w) → x ≡ value v → ReadsIn limit meaning x bytes rest
  borrowed_reads value errors v x exact room only e =
      let packs : Packs (s.reads.tree 0) 0 0 (take (length bytes - length rest) bytes) = subst (Packs (s.reads.tree 0) 0 0) (sym walked_is) (s.reads.packs 0 0 room) in
      let means : meaning v ≡ Some s.value = ap meaning (only (s.reads.tree 0) packs) ∙ s.reads.means 0 in
      let there : meaning v ≡ Some (value v) = exact.there v (exact.sound v s.value means) in
      let same : s.value ≡ x = cc in
      subst (λ y. ReadsIn limit meaning y bytes rest) same s.reads

  -- the bytes before the rest are one value, at every place in an input
  pub packed_alone : 0 < limit → PacksAlone s.reads.tree (take (length bytes - length rest) bytes)
  packed_alone room p = subst (Packs (s.reads.tree p) 0 p) (sym walked_is) (s.reads.packs 0 p room)

  pub packed_before : 0 < limit → (v : Tree) × Packs v 0 0 (take (length bytes - length rest) bytes)
  packed_before room = (s.reads.tree 0, packed_alone room 0)

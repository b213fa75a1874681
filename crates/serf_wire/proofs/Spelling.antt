-- Canonical packets are spellings: parts of values, put together.
use Rattle.serf_wire.proofs.Names.{Bool, List, None, Option, Some, [], ap, arith, cond, false, length, map, nat_le, nat_lt, negsuc, pos, refl, subst, suc, sym, true, ℕ, ℤ, ◌++◌, ◌+◌, ◌<◌, ◌||◌, ◌∷◌, ◌≡◌, ◌≤◌, nat_tests, AllByRecursion, flat_map, list_any, array_head, flag_bytes, int_bytes, map_head, raw_bytes, raw_head, uint_bytes, IsHead, PackItems, PackPairs, Packs, item_count, pair_count, Items, Pairs, Tree, array, flag, int, item, no_items, no_pairs, pair, pairs, raw, item_list, Below, entry, all, fits, up_to}
use Rattle.serf_pack.specs.declared.head.Head.TheVariants as heads

-- a value's bytes, and the value, at every place
pub record Part : Type 0 where
  pub bytes : List ℕ
  pub tree : ℕ → Tree

abbrev pub IsPart : ℕ → Part → Type 0
IsPart d x = (p : ℕ) → Packs (x.tree p) d p x.bytes

abbrev pub text_part : List ℕ → Part
text_part s = record { bytes = raw_bytes s; tree = λ p. raw p s }

abbrev pub number_part : ℕ → Part
number_part n = record { bytes = uint_bytes n; tree = λ p. int p (pos n) }

abbrev pub int_part : ℤ → Part
int_part z = record { bytes = int_bytes z; tree = λ p. int p z }

abbrev pub flag_part : Bool → Part
flag_part b = record { bytes = flag_bytes b; tree = λ p. flag p b }

pub text_is_part : Below → (d : ℕ) (s : List ℕ) → length s < 4294967296 → IsPart d (text_part s)
text_is_part below d s lt = λ p. (refl, raw_head (length s), below.heads.raw (length s) lt, refl)

pub number_is_part : Below → (d n : ℕ) → n < 18446744073709551616 → IsPart d (number_part n)
number_is_part below d n lt = λ p. (refl, below.heads.uint n lt)

pub flag_is_part : (d : ℕ) (b : Bool) → IsPart d (flag_part b)
flag_is_part d true = λ p. (refl, (refl, refl))
flag_is_part d false = λ p. (refl, (refl, refl))

below_by : {A : Type 0} (n m : ℕ) (x y : A) (b : Bool) → nat_lt n m ≡ b → cond b (Some x) None ≡ Some y → n < m
below_by n m x y true is e = grind (arith, nat_tests)
below_by n m x y false is e = absurd cc

pub int_is_part : Below → (d : ℕ) (z : ℤ) → fits z ≡ Some z → IsPart d (int_part z)
int_is_part below d (pos n) e = let lt = below_by n 9223372036854775808 (pos n) (pos n) _ refl e in λ p. (refl, below.heads.uint n (omega arith))
int_is_part below d (negsuc k) e = let lt = below_by k 9223372036854775808 (negsuc k) (negsuc k) _ refl e in λ p. (refl, below.heads.negative k (omega arith))

-- ---- arrays

unfoldable pub items_from : {A : Type 0} → (A → Part) → ℕ → List A → Items
items_from part p [] = no_items
items_from part p (x ∷ xs) = item ((part x).tree p) (items_from part (p + length (part x).bytes) xs)

abbrev pub array_part : {A : Type 0} → (A → Part) → List A → Part
array_part part xs = record { bytes = array_head (length xs) ++ flat_map (λ x. (part x).bytes) xs; tree = λ p. array p (items_from part (p + length (array_head (length xs))) xs) }

pub count_items : {A : Type 0} (part : A → Part) (p : ℕ) (xs : List A) → item_count (items_from part p xs) ≡ length xs
unfolding items_from
count_items part p [] = refl
count_items part p (x ∷ xs) = ap suc (count_items part (p + length (part x).bytes) xs)

pub items_pack : {A : Type 0} (d : ℕ) (part : A → Part) (ok : A → Type 0) → ((x : A) → ok x → IsPart d (part x)) → (xs : List A) → AllByRecursion ok xs → (p : ℕ) → PackItems (items_from part p xs) d p (flat_map (λ x. (part x).bytes) xs)
unfolding items_from
items_pack d part ok are [] oks p = refl
items_pack d part ok are (x ∷ xs) oks p =
    ((part x).bytes, flat_map (λ y. (part y).bytes) xs, refl, are x oks.0 p, items_pack d part ok are xs oks.1 (p + length (part x).bytes))

pub array_is_part : Below → {A : Type 0} (d : ℕ) (part : A → Part) (ok : A → Type 0) → d < 8 → ((x : A) → ok x → IsPart (d + 1) (part x)) → (xs : List A) → AllByRecursion ok xs → length xs < 4294967296 → IsPart d (array_part part xs)
array_is_part below d part ok room are xs oks lt = λ p. (
  refl,
  room,
  array_head (length xs),
  flat_map (λ x. (part x).bytes) xs,
  subst (λ n. IsHead (array_head (length xs)) (heads.Array n)) (sym (count_items part (p + length (array_head (length xs))) xs)) (below.heads.array (length xs) lt),
  refl,
  items_pack (d + 1) part ok are xs oks (p + length (array_head (length xs))),
)

-- ---- maps

pub record Entry : Type 0 where
  pub name : List ℕ
  pub value : Part

pub record IsEntry (d : ℕ) (e : Entry) : Type 0 where
  pub short : length e.name < 4294967296
  pub is : IsPart d e.value

abbrev pub entry_bytes : Entry → List ℕ
entry_bytes e = entry e.name e.value.bytes

abbrev pub pairs_by : {A : Type 0} → (A → Part) → (A → Part) → ℕ → List A → Pairs
pairs_by key value p [] = no_pairs
pairs_by key value p (x ∷ xs) = pair ((key x).tree p) ((value x).tree (p + length (key x).bytes)) (pairs_by key value (p + length (key x).bytes + length (value x).bytes) xs)

abbrev pub pairs_from : {A : Type 0} → (A → Entry) → ℕ → List A → Pairs
pairs_from make p xs = pairs_by (λ x. text_part (make x).name) (λ x. (make x).value) p xs

abbrev pub map_part : {A : Type 0} → (A → Entry) → List A → Part
map_part make xs = record { bytes = map_head (length xs) ++ flat_map (λ x. entry_bytes (make x)) xs; tree = λ p. pairs p (pairs_from make (p + length (map_head (length xs))) xs) }

pub count_pairs : {A : Type 0} (key value : A → Part) (p : ℕ) (xs : List A) → pair_count (pairs_by key value p xs) ≡ length xs
count_pairs key value p [] = refl
count_pairs key value p (x ∷ xs) = ap suc (count_pairs key value (p + length (key x).bytes + length (value x).bytes) xs)

pub pairs_pack : {A : Type 0} (d : ℕ) (key value : A → Part) (ok : A → Type 0) → ((x : A) → ok x → IsPart d (key x)) → ((x : A) → ok x → IsPart d (value x)) → (xs : List A) → AllByRecursion ok xs → (p : ℕ)
    → PackPairs (pairs_by key value p xs) d p (flat_map (λ x. (key x).bytes ++ (value x).bytes) xs)
pairs_pack d key value ok keys values [] oks p = refl
pairs_pack d key value ok keys values (x ∷ xs) oks p = (
  (key x).bytes,
  (value x).bytes,
  flat_map (λ y. (key y).bytes ++ (value y).bytes) xs,
  refl,
  keys x oks.0 p,
  values x oks.0 (p + length (key x).bytes),
  pairs_pack d key value ok keys values xs oks.1 (p + length (key x).bytes + length (value x).bytes),
)

pub map_is_part : Below → {A : Type 0} (d : ℕ) (make : A → Entry) (ok : A → Type 0) → d < 8 → ((x : A) → ok x → IsEntry (d + 1) (make x)) → (xs : List A) → AllByRecursion ok xs → length xs < 4294967296 → IsPart d (map_part make xs)
map_is_part below d make ok room are xs oks lt = λ p. (
  refl,
  room,
  map_head (length xs),
  flat_map (λ x. entry_bytes (make x)) xs,
  subst (λ n. IsHead (map_head (length xs)) (heads.Map n)) (sym (count_pairs (λ x. text_part (make x).name) (λ x. (make x).value) (p + length (map_head (length xs))) xs)) (below.heads.map (length xs) lt),
  refl,
  pairs_pack (d + 1) (λ x. text_part (make x).name) (λ x. (make x).value) ok (λ x ok. text_is_part below (d + 1) (make x).name (are x ok).short) (λ x ok. (are x ok).is) xs oks (p + length (map_head (length xs))),
)

-- a map of exactly these entries
abbrev pub entries_part : List Entry → Part
entries_part es = map_part (λ e. e) es

pub entries_are_part : Below → (d : ℕ) (es : List Entry) → d < 8 → AllByRecursion (IsEntry (d + 1)) es → length es < 4294967296 → IsPart d (entries_part es)
entries_are_part below d es room oks lt = map_is_part below d (λ e. e) (IsEntry (d + 1)) room (λ e is. is) es oks lt

-- ---- how the items of a written list are read

pub all_read : {A B : Type 0} (meaning : Tree → Option B) (part : A → Part) (value : A → B) (ok : A → Type 0) → ((x : A) → ok x → (p : ℕ) → meaning ((part x).tree p) ≡ Some (value x)) → (xs : List A) → AllByRecursion ok xs → (p : ℕ)
    → all meaning (item_list (items_from part p xs)) ≡ Some (map value xs)
unfolding items_from
all_read meaning part value ok reads [] oks p = refl
all_read meaning part value ok reads (x ∷ xs) oks p = rw (reads x oks.0 p, all_read meaning part value ok reads xs oks.1 (p + length (part x).bytes)) refl

pub map_same : {A : Type 0} (xs : List A) → map (λ x. x) xs ≡ xs
map_same [] = refl
map_same (x ∷ xs) = ap (λ ys. x ∷ ys) (map_same xs)

none_by : {A : Type 0} (test : A → Bool) (x : A) (xs : List A) → (list_any test xs ≡ false → AllByRecursion (λ y. test y ≡ false) xs) → (b : Bool) → test x ≡ b → (b || list_any test xs) ≡ false → AllByRecursion (λ y. test y ≡ false) (x ∷ xs)
none_by test x xs rest true is e = absurd cc
none_by test x xs rest false is e = (is, rest e)

pub none_all : {A : Type 0} (test : A → Bool) (xs : List A) → list_any test xs ≡ false → AllByRecursion (λ x. test x ≡ false) xs
none_all test [] none = tt
none_all test (x ∷ xs) none = none_by test x xs (none_all test xs) (test x) refl none

pub both_all : {A : Type 0} (P Q : A → Type 0) (xs : List A) → AllByRecursion P xs → AllByRecursion Q xs → AllByRecursion (λ x. P x × Q x) xs
both_all P Q [] p q = tt
both_all P Q (x ∷ xs) p q = ((p.0, q.0), both_all P Q xs p.1 q.1)

pub all_true : {A : Type 0} (xs : List A) → AllByRecursion (λ x. Unit {0}) xs
all_true [] = tt
all_true (x ∷ xs) = (tt, all_true xs)

pub within : (max n : ℕ) → n ≤ max → up_to max (pos n) ≡ Some n
within max n le = let yes : nat_le n max ≡ true = grind (arith, nat_tests) in rw yes refl

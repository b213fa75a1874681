-- The errors of a map are in reading order.
use Rattle.serf_wire.proofs.Names.{Bool, List, None, Option, Some, [], ap, arith, cond, false, length, length-append, negsuc, pos, refl, suc, true, zero, ℕ, ℤ, ◌++◌, ◌+◌, ◌==◌, ◌∷◌, ◌≡◌, ◌≤◌, max_clock, PackItems, PackPairs, Packs, Items, Pairs, Tree, array, flag, int, item, nil, no_items, no_pairs, pair, pairs, raw, item_list, pair_list, place_of, raw_of, at, errors_after, field_errors, items_errors, key_errors, kind_errors, layout_errors, list_errors, map_errors, name_errors, number_errors, signed_errors, status_errors, status_time_errors, text_errors, time_error, time_errors, truth_errors, unless, value_errors, fits, has_key, text, truth, up_to, ErrorsInOrder, InOrder, map_place, fields_of, kind_in, WireError, BadKey, MaxTime, OutOfRange, Twice, WrongKind, Kind, Layout}
use Rattle.serf_wire.specs.declared.layout.Kind.TheVariants as kinds

-- ---- lists in order

lower : (a b c : ℕ) (fs : List WireError) → a ≤ b → InOrder b fs c → InOrder a fs c
lower a b c [] le h = omega (arith, le, h)
lower a b c (f ∷ fs) le h = (omega (arith, le, h.0), h.1)

upper : (a b c : ℕ) (fs : List WireError) → InOrder a fs b → b ≤ c → InOrder a fs c
upper a b c [] h le = omega (arith, h, le)
upper a b c (f ∷ fs) h le = (h.0, upper (map_place f) b c fs h.1 le)

append : (a b c : ℕ) (fs gs : List WireError) → InOrder a fs b → InOrder b gs c → InOrder a (fs ++ gs) c
append a b c [] gs h k = lower a b c gs h k
append a b c (f ∷ fs) gs h k = (h.0, append (map_place f) b c fs gs h.1 k)

-- ---- a value with one place

-- at most one error, and at this place
abbrev Single : ℕ → List WireError → Type 0
Single a [] = Unit {0}
Single a (f ∷ []) = map_place f ≡ a
Single a (f ∷ g ∷ fs) = ⊥

unless_single : {A : Type 0} (o : Option A) (f : WireError) → Single (map_place f) (unless o f)
unless_single (Some x) f = tt
unless_single None f = refl

number_single : (max : ℕ) (v : Tree) → Single (at v) (number_errors max v)
number_single max (nil p) = tt
number_single max (flag p b) = refl
number_single max (int p z) = unless_single (up_to max z) (OutOfRange (p + 1))
number_single max (raw p s) = refl
number_single max (array p vs) = refl
number_single max (pairs p ps) = refl

time_place : (z : ℤ) (p : ℕ) → map_place (time_error z p) ≡ p
time_place (pos n) p = elim (n == 18446744073709551615) as (λ b. map_place (cond b (MaxTime p) (OutOfRange p)) ≡ p) [ true ↦ refl | false ↦ refl ]
time_place (negsuc k) p = refl

unless_at : {A : Type 0} (o : Option A) (f : WireError) (a : ℕ) → map_place f ≡ a → Single a (unless o f)
unless_at (Some x) f a e = tt
unless_at None f a e = e

time_single : (v : Tree) → Single (at v) (time_errors v)
time_single (nil p) = tt
time_single (flag p b) = refl
time_single (int p z) = unless_at (up_to 18446744073709551614 z) (time_error z (p + 1)) (p + 1) (time_place z (p + 1))
time_single (raw p s) = refl
time_single (array p vs) = refl
time_single (pairs p ps) = refl

signed_single : (v : Tree) → Single (at v) (signed_errors v)
signed_single (nil p) = tt
signed_single (flag p b) = refl
signed_single (int p z) = unless_single (fits z) (OutOfRange (p + 1))
signed_single (raw p s) = refl
signed_single (array p vs) = refl
signed_single (pairs p ps) = refl

single_order : (a b c : ℕ) (fs : List WireError) → Single b fs → a ≤ b → b ≤ c → InOrder a fs c
single_order a b c [] s le ge = omega (arith, le, ge)
single_order a b c (f ∷ []) s le ge = (omega (arith, s, le), omega (arith, s, ge))
single_order a b c (f ∷ g ∷ fs) s le ge = absurd s

place_is : (v : Tree) (d p : ℕ) (bytes : List ℕ) → Packs v d p bytes → place_of v ≡ p
place_is (nil q) d p bytes packs = packs.0
place_is (flag q b) d p bytes packs = packs.0
place_is (int q z) d p bytes packs = packs.0
place_is (raw q s) d p bytes packs = packs.0
place_is (array q vs) d p bytes packs = packs.0
place_is (pairs q ps) d p bytes packs = packs.0

-- ---- the errors of values, each in order within its value

abbrev Ordered : (Tree → List WireError) → Type 0
Ordered errors = (v : Tree) (d p : ℕ) (bytes : List ℕ) → Packs v d p bytes → InOrder (p + 1) (errors v) (p + length bytes + 1)

single_ordered : (errors : Tree → List WireError) → ((v : Tree) → Single (at v) (errors v)) → Ordered errors
single_ordered errors single v d p bytes packs =
    let place = place_is v d p bytes packs in
    single_order (p + 1) (at v) (p + length bytes + 1) (errors v) (single v) (omega (arith, place)) (omega (arith, place))

wrong : (q p n : ℕ) → q ≡ p → InOrder (p + 1) (WrongKind (q + 1) ∷ []) (p + n + 1)
wrong q p n e = (omega (arith, e), omega (arith, e))

-- what is in order after the head is in order in the whole value
after_head : (p : ℕ) (head parts bytes : List ℕ) (fs : List WireError) → bytes ≡ head ++ parts → InOrder (p + length head + 1) fs (p + length head + length parts + 1) → InOrder (p + 1) fs (p + length bytes + 1)
after_head p head parts bytes fs e h =
    let len = ap length e in
    let both = length-append head parts in
    lower (p + 1) (p + length head + 1) (p + length bytes + 1) fs (omega arith) (upper (p + length head + 1) (p + length head + length parts + 1) (p + length bytes + 1) fs h (omega (arith, len, both)))

items_ordered : (errors : Tree → List WireError) → Ordered errors → (vs : Items) (d p : ℕ) (bytes : List ℕ) → PackItems vs d p bytes → InOrder (p + 1) (items_errors errors (item_list vs)) (p + length bytes + 1)
items_ordered errors ordered no_items d p bytes packs = omega arith
items_ordered errors ordered (item v vs) d p bytes (first, others, e, one, more) =
    let len = ap length e in
    let both = length-append first others in
    append (p + 1) (p + length first + 1) (p + length bytes + 1) (errors v) (items_errors errors (item_list vs)) (ordered v d p first one)
    (upper (p + length first + 1) (p + length first + length others + 1) (p + length bytes + 1) (items_errors errors (item_list vs)) (items_ordered errors ordered vs d (p + length first) others more) (omega (arith, len, both)))

list_ordered : (errors : Tree → List WireError) → Ordered errors → Ordered (list_errors errors)
list_ordered errors ordered (nil q) d p bytes packs = omega arith
list_ordered errors ordered (flag q b) d p bytes packs = wrong q p (length bytes) packs.0
list_ordered errors ordered (int q z) d p bytes packs = wrong q p (length bytes) packs.0
list_ordered errors ordered (raw q s) d p bytes packs = wrong q p (length bytes) packs.0
list_ordered errors ordered (array q vs) d p bytes (e, lt, head, parts, is, all, packs) = after_head p head parts bytes (items_errors errors (item_list vs)) all (items_ordered errors ordered vs (d + 1) (p + length head) parts packs)
list_ordered errors ordered (pairs q ps) d p bytes packs = wrong q p (length bytes) packs.0

-- one pair and the pairs after it
next_pair : (p : ℕ) (key value others bytes : List ℕ) (fs gs : List WireError) → bytes ≡ key ++ value ++ others → InOrder (p + 1) fs (p + length key + length value + 1)
    → InOrder (p + length key + length value + 1) gs (p + length key + length value + length others + 1) → InOrder (p + 1) (fs ++ gs) (p + length bytes + 1)
next_pair p key value others bytes fs gs e h k =
    let len = ap length e in
    let two = length-append (key ++ value) others in
    let three = length-append key value in
    append (p + 1) (p + length key + length value + 1) (p + length bytes + 1) fs gs h (upper (p + length key + length value + 1) (p + length key + length value + length others + 1) (p + length bytes + 1) gs k (omega (arith, len, two, three)))

key_order : (k : Tree) (p n m : ℕ) (f : WireError) → map_place f ≡ at k → place_of k ≡ p → InOrder (p + 1) (f ∷ []) (p + n + m + 1)
key_order k p n m f is e = (omega (arith, is, e), omega (arith, is, e))

status_pairs : (ps : Pairs) (d p : ℕ) (bytes : List ℕ) → PackPairs ps d p bytes → InOrder (p + 1) (items_errors status_time_errors (pair_list ps)) (p + length bytes + 1)
status_pairs no_pairs d p bytes packs = omega arith
status_pairs (pair k v ps) d p bytes (key, value, others, e, one, two, more) =
    let name = single_order (p + 1) (at k) (p + length key + 1) (name_errors k (raw_of k)) (unless_single (raw_of k) (BadKey (at k))) (omega (arith, place_is k d p key one)) (omega (arith, place_is k d p key one)) in
    let time = single_ordered (number_errors max_clock) (number_single max_clock) v d (p + length key) value two in
    next_pair p key value others bytes (status_time_errors (k, v)) (items_errors status_time_errors (pair_list ps)) e
    (append (p + 1) (p + length key + 1) (p + length key + length value + 1) (name_errors k (raw_of k)) (number_errors max_clock v) name time) (status_pairs ps d (p + length key + length value) others more)

status_ordered : Ordered status_errors
status_ordered (nil q) d p bytes packs = omega arith
status_ordered (flag q b) d p bytes packs = wrong q p (length bytes) packs.0
status_ordered (int q z) d p bytes packs = wrong q p (length bytes) packs.0
status_ordered (raw q s) d p bytes packs = wrong q p (length bytes) packs.0
status_ordered (array q vs) d p bytes packs = wrong q p (length bytes) packs.0
status_ordered (pairs q ps) d p bytes (e, lt, head, parts, is, all, packs) = after_head p head parts bytes (items_errors status_time_errors (pair_list ps)) all (status_pairs ps (d + 1) (p + length head) parts packs)

module _ (vf : Kind → Tree → List WireError) (ordered : (kind : Kind) → Ordered (vf kind)) (layout : Layout) where
  field_ordered : (earlier : List (Tree × Tree)) (k v : Tree) (name : List ℕ) (o : Option Kind) (d p : ℕ) (key value : List ℕ) → Packs k d p key → Packs v d (p + length key) value
      → InOrder (p + 1) (field_errors vf earlier (k, v) name o) (p + length key + length value + 1)
  field_ordered earlier k v name None d p key value one two = omega arith
  field_ordered earlier k v name (Some kind) d p key value one two =
      append (p + 1) (p + length key + 1) (p + length key + length value + 1) _ (vf kind v) (by (has_key name earlier)) (ordered kind v d (p + length key) value two)
    where
      by : (b : Bool) → InOrder (p + 1) (cond b (Twice (at k) ∷ []) []) (p + length key + 1)
      by true = (omega (arith, place_is k d p key one), omega (arith, place_is k d p key one))
      by false = omega arith

  pair_ordered : (earlier : List (Tree × Tree)) (k v : Tree) (r : Option (List ℕ)) (d p : ℕ) (key value : List ℕ) → Packs k d p key → Packs v d (p + length key) value
      → InOrder (p + 1) (key_errors vf layout earlier (k, v) r) (p + length key + length value + 1)
  pair_ordered earlier k v None d p key value one two = key_order k p (length key) (length value) (BadKey (at k)) refl (place_is k d p key one)
  pair_ordered earlier k v (Some name) d p key value one two = field_ordered earlier k v name (kind_in name (fields_of layout)) d p key value one two

  pairs_ordered : (earlier : List (Tree × Tree)) (ps : Pairs) (d p : ℕ) (bytes : List ℕ) → PackPairs ps d p bytes → InOrder (p + 1) (errors_after vf layout earlier (pair_list ps)) (p + length bytes + 1)
  pairs_ordered earlier no_pairs d p bytes packs = omega arith
  pairs_ordered earlier (pair k v ps) d p bytes (key, value, others, e, one, two, more) =
      next_pair p key value others bytes (key_errors vf layout earlier (k, v) (raw_of k)) (errors_after vf layout (earlier ++ (k, v) ∷ []) (pair_list ps)) e
      (pair_ordered earlier k v (raw_of k) d p key value one two) (pairs_ordered (earlier ++ (k, v) ∷ []) ps d (p + length key + length value) others more)

  map_ordered : Ordered (map_errors vf layout)
  map_ordered (nil q) d p bytes packs = omega arith
  map_ordered (flag q b) d p bytes packs = wrong q p (length bytes) packs.0
  map_ordered (int q z) d p bytes packs = wrong q p (length bytes) packs.0
  map_ordered (raw q s) d p bytes packs = wrong q p (length bytes) packs.0
  map_ordered (array q vs) d p bytes packs = wrong q p (length bytes) packs.0
  map_ordered (pairs q ps) d p bytes (e, lt, head, parts, is, all, packs) = after_head p head parts bytes (errors_after vf layout [] (pair_list ps)) all (pairs_ordered [] ps (d + 1) (p + length head) parts packs)

kind_ordered : (maps : Layout → Tree → List WireError) → ((layout : Layout) → Ordered (maps layout)) → (kind : Kind) → Ordered (kind_errors maps kind)
kind_ordered maps ordered kinds.Time = single_ordered time_errors time_single
kind_ordered maps ordered (kinds.Natural max) = single_ordered (number_errors max) (number_single max)
kind_ordered maps ordered kinds.Signed = single_ordered signed_errors signed_single
kind_ordered maps ordered kinds.Text = single_ordered text_errors (λ v. unless_single (text v) (WrongKind (at v)))
kind_ordered maps ordered kinds.Flag = single_ordered truth_errors (λ v. unless_single (truth v) (WrongKind (at v)))
kind_ordered maps ordered kinds.Texts = list_ordered text_errors (single_ordered text_errors (λ v. unless_single (text v) (WrongKind (at v))))
kind_ordered maps ordered kinds.Status = status_ordered
kind_ordered maps ordered (kinds.Maps layout) = ordered layout

value_ordered : (depth_left : ℕ) (kind : Kind) → Ordered (value_errors depth_left kind)
value_ordered zero kind = kind_ordered (λ layout v. []) (λ layout v d p bytes packs. omega arith) kind
value_ordered (suc n) kind = kind_ordered (λ layout. list_errors (map_errors (value_errors n) layout)) (λ layout. list_ordered (map_errors (value_errors n) layout) (map_ordered (value_errors n) (value_ordered n) layout)) kind

pub errors_ordered : ErrorsInOrder
errors_ordered layout ps bytes packs =
    upper 1 (0 + length bytes + 1) (length bytes + 1) (layout_errors layout (pair_list ps)) (map_ordered (value_errors 2) (value_ordered 2) layout (pairs 0 ps) 0 0 bytes packs) (omega arith)

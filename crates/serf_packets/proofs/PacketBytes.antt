-- The bytes of a packet, and of the texts in it.
use Rattle.serf_packets.proofs.Names.{List, [], arith, length, suc, zero, ℕ, ◌++◌, ◌∷◌, AllByRecursion, flat_map, fold, IsBytes, array_head, raw_bytes, raw_head, entry, list_bytes}

pub record AreBytes (xs : List ℕ) : Type 0 where
  pub each : IsBytes xs

following-by : (xs ys : List ℕ) → IsBytes (xs ++ ys) → IsBytes ys
following-by [] ys h = h
following-by (x ∷ xs) ys h = following-by xs ys (λ k. h (suc k))

following : (xs ys : List ℕ) → AreBytes (xs ++ ys) → AreBytes ys
following xs ys h = record { each = following-by xs ys h.each }

front-by : (xs ys : List ℕ) → IsBytes (xs ++ ys) → IsBytes xs
front-by [] ys h k = omega arith
front-by (x ∷ xs) ys h zero = h 0
front-by (x ∷ xs) ys h (suc k) = front-by xs ys (λ i. h (suc i)) k

pub front : (xs ys : List ℕ) → AreBytes (xs ++ ys) → AreBytes xs
front xs ys h = record { each = front-by xs ys h.each }

-- the bytes of a byte string
pub raw_text : (text : List ℕ) → AreBytes (raw_bytes text) → AreBytes text
raw_text text h = following (raw_head (length text)) text h

-- the bytes of a field that is a text
pub field_bytes : (key text : List ℕ) → AreBytes (entry key (raw_bytes text)) → AreBytes text
field_bytes key text h = raw_text text (following (raw_bytes key) (raw_bytes text) h)

-- parts, one after another
abbrev pub whole : List ℕ → List (List ℕ) → List ℕ
whole first parts = fold (λ a p. a ++ p) first parts

first-bytes : (first : List ℕ) (parts : List (List ℕ)) → AreBytes (whole first parts) → AreBytes first
first-bytes first [] h = h
first-bytes first (p ∷ ps) h = front first p (first-bytes (first ++ p) ps h)

pub parts_bytes : (first : List ℕ) (parts : List (List ℕ)) → AreBytes (whole first parts) → AllByRecursion AreBytes parts
parts_bytes first [] h = tt
parts_bytes first (p ∷ ps) h = (following first p (first-bytes (first ++ p) ps h), parts_bytes (first ++ p) ps h)

-- Lists

each-bytes : {A : Type 0} (P : A → Type 0) (item : A → List ℕ) → ((x : A) → AreBytes (item x) → P x)
    → (xs : List A) → AreBytes (flat_map item xs) → AllByRecursion P xs
each-bytes P item says [] h = tt
each-bytes P item says (x ∷ xs) h =
    (says x (front (item x) (flat_map item xs) h), each-bytes P item says xs (following (item x) (flat_map item xs) h))

-- the items of a field, after their header
pub items_bytes : {A : Type 0} (P : A → Type 0) (item : A → List ℕ) → ((x : A) → AreBytes (item x) → P x)
    → (key head : List ℕ) (xs : List A) → AreBytes (entry key (head ++ flat_map item xs)) → AllByRecursion P xs
items_bytes P item says key head xs h =
    each-bytes P item says xs (following head (flat_map item xs) (following (raw_bytes key) (head ++ flat_map item xs) h))

-- the bytes of a field that is a list of texts
pub texts_bytes : (key : List ℕ) (xs : List (List ℕ)) → AreBytes (entry key (list_bytes raw_bytes xs)) → AllByRecursion AreBytes xs
texts_bytes key xs h = items_bytes AreBytes raw_bytes raw_text key (array_head (length xs)) xs h

-- Reading from left to right, up to the first error. This connects the code with the relations Packs and Breaks. Every
-- rule of MessagePack that is used here is also a rule there.
use Rattle.std.specs.Prelude.{◌≡◌, ◌≤◌, ◌-◌, ℕ, zero, suc, List, [], ◌∷◌, length, take, drop, Result, Ok, Err, nat_lt, ◌==◌, if◌then◌else◌}
use Rattle.byteorder.specs.Endian.{big_number}
use Rattle.serf_pack.specs.declared.error.PackError.{PackError}
use Rattle.serf_pack.specs.declared.error.PackError.TheVariants as errors
use Rattle.serf_pack.specs.declared.head.Head.{Head}
use Rattle.serf_pack.specs.declared.head.Head.TheVariants.{Nil, Flag, Int, Raw, Array, Map}
use Rattle.serf_pack.specs.declared.head.Row.{Row}
use Rattle.serf_pack.specs.declared.head.Row.TheVariants.{Whole, Number, Unsupported}
use Rattle.serf_pack.specs.Tree.{Tree, nil, flag, int, raw, array, pairs, Items, no_items, item, Pairs, no_pairs, pair}
use Rattle.serf_pack.specs.Table.{row_of, meaning_of}

-- the function's result, seen through view, is the result of the reading
abbrev pub Gives : {X Y E : Type 0} → (X → Y) → Result X E → Result Y E → Type 0
Gives view (Ok x) read = read ≡ Ok (view x)
Gives view (Err e) read = read ≡ Err e

-- the next step of a reading, unless this step found an error
infixl 10 ◌>>=◌
abbrev pub ◌>>=◌ : {A B : Type 0} → Result A PackError → (A → Result B PackError) → Result B PackError
(Ok x) >>= f = f x
(Err e) >>= f = Err e

-- a reader returns what it read at the start of the bytes, and the bytes that follow
abbrev pub Reader : Type 0 → Type 0
Reader A = List ℕ → Result (A × List ℕ) PackError

-- the place at which a rest of the input begins, if the whole input has length `total`
abbrev pub place : ℕ → List ℕ → ℕ
place total rest = total - length rest

-- the head with this row at place p and what follows it: either the first byte is the whole head, or the bytes of its
-- number follow, and they may pass the end
abbrev pub head_by : ℕ → Row → ℕ → List ℕ → Result (Head × List ℕ) PackError
head_by p (Whole h) b rest = Ok (h, rest)
head_by p (Number f w) b rest = if nat_lt (length rest) w then Err (errors.Truncated p) else Ok (meaning_of f w (big_number w rest), drop w rest)
head_by p Unsupported b rest = Err (errors.Unsupported b p)

-- the head at the start of the bytes, and what follows it
unfoldable pub head_at : ℕ → List ℕ → Result (Head × List ℕ) PackError
head_at total [] = Err (errors.Truncated (place total []))
head_at total (b ∷ rest) = head_by (place total (b ∷ rest)) (row_of b) b rest

-- a number has one to eight bytes
abbrev pub HasWidth : Row → Type 0
HasWidth (Whole h) = Unit {0}
HasWidth (Number f w) = (1 ≤ w) × (w ≤ 8)
HasWidth Unsupported = Unit {0}

-- this many values, one after another
unfoldable pub items_at : Reader Tree → ℕ → Reader Items
items_at value zero bytes = Ok (no_items, bytes)
items_at value (suc n) bytes = do
  v ← value bytes
  vs ← items_at value n v.1
  Ok (item v.0 vs.0, vs.1)

-- this many pairs, each a key and a value
unfoldable pub pairs_at : Reader Tree → ℕ → Reader Pairs
pairs_at value zero bytes = Ok (no_pairs, bytes)
pairs_at value (suc n) bytes = do
  k ← value bytes
  v ← value k.1
  ps ← pairs_at value n v.1
  Ok (pair k.0 v.0 ps.0, ps.1)

-- the parts of a value after its head, if the value is at place p
abbrev pub parts_by : (ℕ → Reader Items) → (ℕ → Reader Pairs) → ℕ → Head → Reader Tree
parts_by items members p Nil rest = Ok (nil p, rest)
parts_by items members p (Flag b) rest = Ok (flag p b, rest)
parts_by items members p (Int z) rest = Ok (int p z, rest)
parts_by items members p (Raw n) rest = if nat_lt (length rest) n then Err (errors.Truncated p) else Ok (raw p (take n rest), drop n rest)
parts_by items members p (Array n) rest = items n rest >>= λ vs. Ok (array p vs.0, vs.1)
parts_by items members p (Map n) rest = members n rest >>= λ ps. Ok (pairs p ps.0, ps.1)

-- the parts that may not be read, because the value at place p is nested inside eight others
abbrev pub too_deep : {A : Type 0} → ℕ → ℕ → Reader A
too_deep p n rest = Err (errors.TooDeep p)

-- one value of an input of length total, in which containers may be nested this deep
unfoldable pub value_at : ℕ → ℕ → Reader Tree
value_at zero total bytes = head_at total bytes >>= λ h. parts_by (too_deep (place total bytes)) (too_deep (place total bytes)) (place total bytes) h.0 h.1
value_at (suc depth_left) total bytes = head_at total bytes >>= λ h. parts_by (items_at (value_at depth_left total)) (pairs_at (value_at depth_left total)) (place total bytes) h.0 h.1

-- the rest after a value, without the value
abbrev pub rest_of : {A : Type 0} → Result (A × List ℕ) PackError → Result (List ℕ) PackError
rest_of read = read >>= λ x. Ok x.1

-- the value that the whole input spells
unfoldable pub whole_at : ℕ → List ℕ → Result Tree PackError
whole_at depth_left bytes = do
  v ← value_at depth_left (length bytes) bytes
  if length v.1 == 0 then Ok v.0 else Err (errors.Trailing (place (length bytes) v.1))

-- the value that was read, or nil if none was read
abbrev pub value_or_nil : Result (Tree × List ℕ) PackError → Tree
value_or_nil (Ok x) = x.0
value_or_nil (Err e) = nil 0

abbrev pub items_or_none : Result (Items × List ℕ) PackError → Items
items_or_none (Ok x) = x.0
items_or_none (Err e) = no_items

abbrev pub pairs_or_none : Result (Pairs × List ℕ) PackError → Pairs
pairs_or_none (Ok x) = x.0
pairs_or_none (Err e) = no_pairs

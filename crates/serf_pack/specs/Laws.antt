-- Laws about spellings and errors.
use Rattle.std.specs.Prelude.{FitsSigned, ◌≡◌, ◌<◌, ◌+◌, ◌^◌, ◌↔◌, ℕ, ℤ, pos, negsuc, Bool, List, ◌++◌, Ok, Err, length}
use Rattle.std.specs.Int.{w64}
use Rattle.serf_pack.specs.declared.head.Head.{Head}
use Rattle.serf_pack.specs.declared.head.Head.TheVariants as heads
use Rattle.serf_pack.specs.Canonical.{map_head, array_head, raw_head, raw_bytes, uint_bytes, negative_bytes, int_bytes, flag_bytes, nil_bytes}
use Rattle.serf_pack.specs.declared.error.PackError.{PackError}
use Rattle.serf_pack.specs.Tree.{Tree, Items, Pairs}
use Rattle.serf_pack.specs.Tree as trees
use Rattle.serf_pack.specs.Packs.{IsHead, Packs, PackItems, PackPairs, item_count, pair_count}
use Rattle.serf_pack.specs.Breaks.{IsMalformed}
use Rattle.serf_pack.specs.Reading.{head_at, whole_at}

-- a byte list spells at most one value
abbrev pub OneTree : Type 0
OneTree = (bytes : List ℕ) (v w : Tree) → Packs v 0 0 bytes → Packs w 0 0 bytes → v ≡ w

-- a byte list has at most one error
abbrev pub OneError : Type 0
OneError = (bytes : List ℕ) (f g : PackError) → IsMalformed bytes f → IsMalformed bytes g → f ≡ g

-- a byte list that spells a value has no error
abbrev pub NeverBoth : Type 0
NeverBoth = (bytes : List ℕ) (v : Tree) (f : PackError) → Packs v 0 0 bytes → IsMalformed bytes f → ⊥

-- the bytes begin with a head, and the rest follows it
pub record BeginsWith (h : Head) (bytes rest : List ℕ) : Type 0 where
  pub head : List ℕ
  pub bytes_are : bytes ≡ head ++ rest
  pub is : IsHead head h

-- the reading returns exactly the value that the bytes spell inside at most eight containers, and exactly the first
-- error; and whatever it accepts as a head is one
pub record ReadsExactly : Type 0 where
  pub value : (bytes : List ℕ) (v : Tree) → (whole_at 8 bytes ≡ Ok v) ↔ Packs v 0 0 bytes
  pub error : (bytes : List ℕ) (f : PackError) → (whole_at 8 bytes ≡ Err f) ↔ IsMalformed bytes f
  pub head : (total : ℕ) (bytes rest : List ℕ) (h : Head) → (head_at total bytes ≡ Ok (h, rest)) ↔ BeginsWith h bytes rest

-- what the appenders write is a head, and for integers it is the whole spelling
pub record CanonicalHeads : Type 0 where
  pub map : (n : ℕ) → n < 2 ^ 32 → IsHead (map_head n) (heads.Map n)
  pub array : (n : ℕ) → n < 2 ^ 32 → IsHead (array_head n) (heads.Array n)
  pub raw : (n : ℕ) → n < 2 ^ 32 → IsHead (raw_head n) (heads.Raw n)
  pub uint : (n : ℕ) → n < 2 ^ 64 → IsHead (uint_bytes n) (heads.Int (pos n))
  pub negative : (k : ℕ) → k < 2 ^ 63 → IsHead (negative_bytes k) (heads.Int (negsuc k))

-- what the appenders write spells the value, at every place and inside any number of containers; an array or a map is
-- its header followed by its parts, and is nested inside fewer than eight others
pub record AppendersPack : Type 0 where
  pub nil : (d p : ℕ) → Packs (trees.nil p) d p nil_bytes
  pub flag : (d p : ℕ) (b : Bool) → Packs (trees.flag p b) d p (flag_bytes b)
  pub uint : (d p n : ℕ) → n < 2 ^ 64 → Packs (trees.int p (pos n)) d p (uint_bytes n)
  pub int : (d p : ℕ) (z : ℤ) → FitsSigned w64 z → Packs (trees.int p z) d p (int_bytes z)
  pub raw : (d p : ℕ) (s : List ℕ) → length s < 2 ^ 32 → Packs (trees.raw p s) d p (raw_bytes s)
  pub array : (d p : ℕ) (vs : Items) (parts : List ℕ) → d < 8 → item_count vs < 2 ^ 32 → PackItems vs (d + 1) (p + length (array_head (item_count vs))) parts
      → Packs (trees.array p vs) d p (array_head (item_count vs) ++ parts)
  pub map : (d p : ℕ) (ps : Pairs) (parts : List ℕ) → d < 8 → pair_count ps < 2 ^ 32 → PackPairs ps (d + 1) (p + length (map_head (pair_count ps))) parts
      → Packs (trees.pairs p ps) d p (map_head (pair_count ps) ++ parts)

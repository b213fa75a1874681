-- Why byte lists spell nothing: the first error in reading order. The formats are those of the MessagePack
-- specification, "Formats". Which error is reported, and at which place, is this project's own choice.
use Rattle.std.specs.Prelude.{◌≡◌, ◌<◌, ◌≤◌, ◌+◌, ℕ, List, [], ◌∷◌, ◌++◌, length}
use Rattle.serf_pack.specs.declared.error.PackError.{PackError}
use Rattle.serf_pack.specs.declared.error.PackError.TheVariants as errors
use Rattle.serf_pack.specs.declared.head.Head.TheVariants as heads
use Rattle.serf_pack.specs.declared.head.Field.{Field}
use Rattle.serf_pack.specs.declared.head.Row.TheVariants.{Number, Unsupported}
use Rattle.serf_pack.specs.Tree.{Tree, Items, Pairs}
use Rattle.serf_pack.specs.Table.{row_of}
use Rattle.serf_pack.specs.Packs.{IsHead, item_count, pair_count, Packs, PackItems, PackPairs}

-- Breaks d p bytes f: a value inside d containers has to begin at place p, the rest of the input is these bytes, and f
-- is the first error.
pub data Breaks : ℕ → ℕ → List ℕ → PackError → Type 0 where
  -- the bytes end here
  at_end : (d p : ℕ) (bytes : List ℕ) (f : PackError) → bytes ≡ [] → f ≡ errors.Truncated p → Breaks d p bytes f
  -- no format of the profile begins with the first byte
  unsupported : (d p : ℕ) (bytes : List ℕ) (f : PackError) (b : ℕ) (rest : List ℕ) → bytes ≡ b ∷ rest → row_of b ≡ Unsupported → f ≡ errors.Unsupported b p → Breaks d p bytes f
  -- the number after the first byte passes the end
  short_number : (d p : ℕ) (bytes : List ℕ) (f : PackError) (b : ℕ) (rest : List ℕ) (field : Field) (w : ℕ) → bytes ≡ b ∷ rest → row_of b ≡ Number field w → length rest < w → f ≡ errors.Truncated p → Breaks d p bytes f
  -- the raw bytes pass the end
  short_raw : (d p : ℕ) (bytes : List ℕ) (f : PackError) (head rest : List ℕ) (n : ℕ) → bytes ≡ head ++ rest → IsHead head (heads.Raw n) → length rest < n → f ≡ errors.Truncated p → Breaks d p bytes f
  -- an array or a map is nested inside eight others
  deep_array : (d p : ℕ) (bytes : List ℕ) (f : PackError) (head rest : List ℕ) (n : ℕ) → bytes ≡ head ++ rest → IsHead head (heads.Array n) → 8 ≤ d → f ≡ errors.TooDeep p → Breaks d p bytes f
  deep_map : (d p : ℕ) (bytes : List ℕ) (f : PackError) (head rest : List ℕ) (n : ℕ) → bytes ≡ head ++ rest → IsHead head (heads.Map n) → 8 ≤ d → f ≡ errors.TooDeep p → Breaks d p bytes f
  -- after a valid head and its first items, the next item breaks
  in_array : (d p : ℕ) (bytes : List ℕ) (f : PackError) (head front rest : List ℕ) (n : ℕ) (vs : Items) → bytes ≡ head ++ (front ++ rest) → IsHead head (heads.Array n) → d < 8
      → PackItems vs (d + 1) (p + length head) front → item_count vs < n → Breaks (d + 1) (p + length head + length front) rest f → Breaks d p bytes f
  -- after a valid head and its first pairs, the next key breaks
  in_key : (d p : ℕ) (bytes : List ℕ) (f : PackError) (head front rest : List ℕ) (n : ℕ) (ps : Pairs) → bytes ≡ head ++ (front ++ rest) → IsHead head (heads.Map n) → d < 8
      → PackPairs ps (d + 1) (p + length head) front → pair_count ps < n → Breaks (d + 1) (p + length head + length front) rest f → Breaks d p bytes f
  -- or the next key is valid, and its value breaks
  in_value : (d p : ℕ) (bytes : List ℕ) (f : PackError) (head front key rest : List ℕ) (n : ℕ) (ps : Pairs) (k : Tree) → bytes ≡ head ++ (front ++ (key ++ rest)) → IsHead head (heads.Map n) → d < 8
      → PackPairs ps (d + 1) (p + length head) front → pair_count ps < n → Packs k (d + 1) (p + length head + length front) key
      → Breaks (d + 1) (p + length head + length front + length key) rest f → Breaks d p bytes f

-- The error of a whole input: its value breaks, or more bytes follow it.
pub data IsMalformed : List ℕ → PackError → Type 0 where
  breaks : (bytes : List ℕ) (f : PackError) → Breaks 0 0 bytes f → IsMalformed bytes f
  trails : (bytes : List ℕ) (f : PackError) (front rest : List ℕ) (v : Tree) → bytes ≡ front ++ rest → Packs v 0 0 front → 0 < length rest → f ≡ errors.Trailing (length front) → IsMalformed bytes f

-- The place of an error, in bytes from the start of the input.
abbrev pub error_place : PackError → ℕ
error_place (errors.Truncated p) = p
error_place (errors.Unsupported b p) = p
error_place (errors.TooDeep p) = p
error_place (errors.Trailing p) = p

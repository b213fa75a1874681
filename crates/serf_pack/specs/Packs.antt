-- What byte lists spell: MessagePack specification, "Formats", each section from "nil format" to "map format family".
-- Any spelling of a number, a length or a count is accepted, even if it isn't the shortest. The limit of eight nested
-- containers is this project's own.
use Rattle.std.specs.Prelude.{◌≡◌, ◌<◌, ◌+◌, ℕ, suc, List, [], ◌∷◌, ◌++◌, length}
use Rattle.byteorder.specs.Endian.{big_number}
use Rattle.serf_pack.specs.declared.head.Head.{Head}
use Rattle.serf_pack.specs.declared.head.Head.TheVariants as heads
use Rattle.serf_pack.specs.declared.head.Row.{Row}
use Rattle.serf_pack.specs.declared.head.Row.TheVariants.{Whole, Number, Unsupported}
use Rattle.serf_pack.specs.Tree.{Tree, nil, flag, int, raw, array, pairs, Items, no_items, item, Pairs, no_pairs, pair}
use Rattle.serf_pack.specs.Table.{row_of, meaning_of}

-- the bytes after the first one are those that its row of the table requires
abbrev pub IsField : Row → List ℕ → Head → Type 0
IsField (Whole g) field h = (field ≡ []) × (h ≡ g)
IsField (Number f w) field h = (length field ≡ w) × (h ≡ meaning_of f w (big_number w field))
IsField Unsupported field h = ⊥

-- the bytes are a head: a format byte of the table, and the number that its row requires
abbrev pub IsHead : List ℕ → Head → Type 0
IsHead [] h = ⊥
IsHead (b ∷ field) h = IsField (row_of b) field h

-- how many items an array has
abbrev pub item_count : Items → ℕ
item_count no_items = 0
item_count (item v vs) = suc (item_count vs)

-- how many pairs a map has
abbrev pub pair_count : Pairs → ℕ
pair_count no_pairs = 0
pair_count (pair k v ps) = suc (pair_count ps)

-- Packs v d p bytes: the bytes, which begin at place p inside d containers, spell v.
abbrev mutual
  pub Packs : Tree → ℕ → ℕ → List ℕ → Type 0
  Packs (nil q) d p bytes = (q ≡ p) × IsHead bytes heads.Nil
  Packs (flag q b) d p bytes = (q ≡ p) × IsHead bytes (heads.Flag b)
  Packs (int q z) d p bytes = (q ≡ p) × IsHead bytes (heads.Int z)
  Packs (raw q s) d p bytes = (q ≡ p) × (head : List ℕ) × IsHead head (heads.Raw (length s)) × (bytes ≡ head ++ s)
  Packs (array q vs) d p bytes =
      (q ≡ p) × (d < 8) × (head : List ℕ) × (parts : List ℕ) × IsHead head (heads.Array (item_count vs)) × (bytes ≡ head ++ parts) × PackItems vs (d + 1) (p + length head) parts
  Packs (pairs q ps) d p bytes =
      (q ≡ p) × (d < 8) × (head : List ℕ) × (parts : List ℕ) × IsHead head (heads.Map (pair_count ps)) × (bytes ≡ head ++ parts) × PackPairs ps (d + 1) (p + length head) parts

  -- the items' spellings, one after another ("array format family")
  pub PackItems : Items → ℕ → ℕ → List ℕ → Type 0
  PackItems no_items d p bytes = bytes ≡ []
  PackItems (item v vs) d p bytes = (first : List ℕ) × (others : List ℕ) × (bytes ≡ first ++ others) × Packs v d p first × PackItems vs d (p + length first) others

  -- the pairs' spellings, each a key and then its value ("map format family")
  pub PackPairs : Pairs → ℕ → ℕ → List ℕ → Type 0
  PackPairs no_pairs d p bytes = bytes ≡ []
  PackPairs (pair k v ps) d p bytes =
      (key : List ℕ) × (value : List ℕ) × (others : List ℕ) × (bytes ≡ key ++ value ++ others) × Packs k d p key × Packs v d (p + length key) value
      × PackPairs ps d (p + length key + length value) others

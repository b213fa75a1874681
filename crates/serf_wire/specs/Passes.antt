-- Which nodes a filter lets pass (Serf's query.go, shouldProcessQuery: a type byte, then a node filter's list of
-- names).
use Rattle.std.specs.Prelude.{◌≡◌, ℕ, Bool, false, List, [], ◌∷◌, Option, Some, None, Result, Ok, Err, ◌==◌, if◌then◌else◌}
use Rattle.std.specs.List.{Contains, list_any}
use Rattle.std.specs.Str.{bytes_eq}
use Rattle.serf_pack.specs.declared.error.PackError.{PackError}
use Rattle.serf_pack.specs.Tree.{Tree, nil, flag, int, raw, array, pairs, Items}
use Rattle.serf_pack.specs.Packs.{Packs}
use Rattle.serf_pack.specs.Reading.{whole_at}
use Rattle.serf_pack.specs.View.{item_list}
use Rattle.serf_pack.specs.Canonical.{raw_bytes}
use Rattle.serf_wire.specs.Fields.{text, all}
use Rattle.serf_wire.specs.Canonical.{list_bytes}

-- the bytes are an array of names, each raw or nil, and the node's name is one of them
pub record NamesNode (bytes node : List ℕ) : Type 0 where
  pub items : Items
  pub packs : Packs (array 0 items) 0 0 bytes
  pub names : List (List ℕ)
  pub are : all text (item_list items) ≡ Some names
  pub among : Contains names node

-- Only a node filter, whose type is 0, can let a node pass. An empty filter, a tag filter (1) and a filter of any
-- other type let no node pass.
abbrev pub Passes : List ℕ → List ℕ → Type 0
Passes [] node = ⊥
Passes (kind ∷ bytes) node = (kind ≡ 0) × NamesNode bytes node

-- The same as a function.
abbrev pub is_among : List ℕ → Option (List (List ℕ)) → Bool
is_among node None = false
is_among node (Some names) = list_any (λ name. bytes_eq name node) names

abbrev pub names_node : List ℕ → Tree → Bool
names_node node (nil p) = false
names_node node (flag p b) = false
names_node node (int p z) = false
names_node node (raw p s) = false
names_node node (array p vs) = is_among node (all text (item_list vs))
names_node node (pairs p ps) = false

abbrev pub value_names_node : List ℕ → Result Tree PackError → Bool
value_names_node node (Ok v) = names_node node v
value_names_node node (Err f) = false

unfoldable pub passes_of : List ℕ → List ℕ → Bool
passes_of [] node = false
passes_of (kind ∷ bytes) node = if kind == 0 then value_names_node node (whole_at 8 bytes) else false

-- the filter that lets the nodes with these names pass
abbrev pub canonical_filter : List (List ℕ) → List ℕ
canonical_filter names = 0 ∷ list_bytes raw_bytes names

-- What a view shows: the value at the start of its bytes.
use Rattle.std.specs.Prelude.{◌≡◌, ◌<◌, ◌≤◌, ◌-◌, length, take, is_ok, true, ℕ, ℤ, Bool, List, [], ◌∷◌, Option, Some, None}
use Rattle.serf_pack.specs.declared.view.View.{View}
use Rattle.serf_pack.specs.declared.view.Kind.{Kind}
use Rattle.serf_pack.specs.declared.view.Kind.TheVariants as kinds
use Rattle.serf_pack.specs.Tree.{Tree, nil, flag, int, raw, array, pairs, Items, no_items, item, Pairs, no_pairs, pair}
use Rattle.serf_pack.specs.Reading.{value_at, items_at, pairs_at, value_or_nil, items_or_none, pairs_or_none}
use Rattle.serf_pack.specs.declared.head.Head.{Head}
use Rattle.serf_pack.specs.declared.head.Head.TheVariants as heads

-- the value that the view shows
unfoldable pub tree_of : View → Tree
tree_of v = value_or_nil (value_at v.depth_left v.total v.bytes.now)

-- which of the six kinds it is
abbrev pub kind_of : Tree → Kind
kind_of (nil p) = kinds.Nil
kind_of (flag p b) = kinds.Bool
kind_of (int p z) = kinds.Int
kind_of (raw p s) = kinds.Raw
kind_of (array p vs) = kinds.Array
kind_of (pairs p ps) = kinds.Map

-- the number of an integer
abbrev pub int_of : Tree → Option ℤ
int_of (nil p) = None
int_of (flag p b) = None
int_of (int p z) = Some z
int_of (raw p s) = None
int_of (array p vs) = None
int_of (pairs p ps) = None

-- the truth value of a boolean
abbrev pub flag_of : Tree → Option Bool
flag_of (nil p) = None
flag_of (flag p b) = Some b
flag_of (int p z) = None
flag_of (raw p s) = None
flag_of (array p vs) = None
flag_of (pairs p ps) = None

-- the bytes of a byte string
abbrev pub raw_of : Tree → Option (List ℕ)
raw_of (nil p) = None
raw_of (flag p b) = None
raw_of (int p z) = None
raw_of (raw p s) = Some s
raw_of (array p vs) = None
raw_of (pairs p ps) = None

-- the place at which it begins in the input
abbrev pub place_of : Tree → ℕ
place_of (nil p) = p
place_of (flag p b) = p
place_of (int p z) = p
place_of (raw p s) = p
place_of (array p vs) = p
place_of (pairs p ps) = p

-- the items as a list
abbrev pub item_list : Items → List Tree
item_list no_items = []
item_list (item v vs) = v ∷ item_list vs

-- the pairs as a list
abbrev pub pair_list : Pairs → List (Tree × Tree)
pair_list no_pairs = []
pair_list (pair k v ps) = (k, v) ∷ pair_list ps

-- the items of an array; any other value has none
abbrev pub items_of : Tree → List Tree
items_of (nil p) = []
items_of (flag p b) = []
items_of (int p z) = []
items_of (raw p s) = []
items_of (array p vs) = item_list vs
items_of (pairs p ps) = []

-- the pairs of a map; any other value has none
abbrev pub pairs_of : Tree → List (Tree × Tree)
pairs_of (nil p) = []
pairs_of (flag p b) = []
pairs_of (int p z) = []
pairs_of (raw p s) = []
pairs_of (array p vs) = []
pairs_of (pairs p ps) = pair_list ps

-- the value with this head, whose parts are read from the bytes after the head
abbrev pub tree_by : ℕ → ℕ → ℕ → Head → List ℕ → Tree
tree_by depth_left total p heads.Nil rest = nil p
tree_by depth_left total p (heads.Flag b) rest = flag p b
tree_by depth_left total p (heads.Int z) rest = int p z
tree_by depth_left total p (heads.Raw n) rest = raw p (take n rest)
tree_by depth_left total p (heads.Array n) rest = array p (items_or_none (items_at (value_at (depth_left - 1) total) n rest))
tree_by depth_left total p (heads.Map n) rest = pairs p (pairs_or_none (pairs_at (value_at (depth_left - 1) total) n rest))

-- what is true of a head and of the bytes after it, if the value can be read
abbrev pub HasParts : ℕ → ℕ → Head → List ℕ → Type 0
HasParts depth_left total heads.Nil rest = Unit {0}
HasParts depth_left total (heads.Flag b) rest = Unit {0}
HasParts depth_left total (heads.Int z) rest = Unit {0}
HasParts depth_left total (heads.Raw n) rest = n ≤ length rest
HasParts depth_left total (heads.Array n) rest = (0 < depth_left) × (is_ok (items_at (value_at (depth_left - 1) total) n rest) ≡ true)
HasParts depth_left total (heads.Map n) rest = (0 < depth_left) × (is_ok (pairs_at (value_at (depth_left - 1) total) n rest) ≡ true)

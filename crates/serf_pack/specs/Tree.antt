-- What bytes spell: a value, with the place at which each part of it begins (in bytes from the start of the input).
-- MessagePack specification, "Type system": Nil, Boolean, Integer, Raw (both String and Binary), Array and Map. A map
-- is a list of pairs: keys may be any values, and may repeat.
use Rattle.std.specs.Prelude.{ℕ, ℤ, Bool, List}

mutual
  pub data Tree : Type 0 where
    -- nil, at a place
    nil : ℕ → Tree
    -- a truth value
    flag : ℕ → Bool → Tree
    -- an integer, of any format
    int : ℕ → ℤ → Tree
    -- a byte string, str or bin
    raw : ℕ → List ℕ → Tree
    -- the items of an array
    array : ℕ → Items → Tree
    -- the pairs of a map
    pairs : ℕ → Pairs → Tree

  pub data Items : Type 0 where
    no_items : Items
    item : Tree → Items → Items

  pub data Pairs : Type 0 where
    no_pairs : Pairs
    pair : Tree → Tree → Pairs → Pairs

-- A list that has its own memory.
use Rattle.std.specs.Prelude.{ℕ, List}

-- the items in order, and how many more can be added without allocating memory
pub record Reserved (K : Type 0) : Type 0 where
  pub items : List K
  pub room : ℕ

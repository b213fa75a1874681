-- The text of a reason.
use Rattle.std.specs.Prelude.{◌≡◌, ℕ, ◌<◌, ◌++◌, length, List, codes, decimal}
use Rattle.std.specs.List.{flat_map}
use Rattle.serf_text.specs.Quoted.{byte_text}

-- the line of a reason of action number `n`
unfoldable pub because_line : ℕ → List ℕ → List ℕ
because_line n reason = decimal n ++ codes " because " ++ flat_map byte_text reason ++ codes "\n"

-- a text grew by the lines of these reasons of action number `n`
pub record AddsReasons (n : ℕ) (old new : List ℕ) : Type 0 where
  pub reasons : List (List ℕ)
  pub added : new ≡ old ++ flat_map (because_line n) reasons

-- a text grew by the lines of one or more reasons of action number `n`
pub record AddsSome (n : ℕ) (old new : List ℕ) : Type 0 where
  pub reasons : List (List ℕ)
  pub some : 0 < length reasons
  pub added : new ≡ old ++ flat_map (because_line n) reasons

-- a text grew by the lines of one or more reasons of action number `n`, and `P` holds of these reasons
pub record AddsSuch (P : List (List ℕ) → Type 0) (n : ℕ) (old new : List ℕ) : Type 0 where
  pub reasons : List (List ℕ)
  pub some : 0 < length reasons
  pub added : new ≡ old ++ flat_map (because_line n) reasons
  pub such : P reasons

-- a text grew by some bytes, and `P` holds of these bytes
pub record GrowsBy (P : List ℕ → Type 0) (old new : List ℕ) : Type 0 where
  pub more : List ℕ
  pub added : new ≡ old ++ more
  pub such : P more

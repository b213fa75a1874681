-- Two equal keys in a list.
use Rattle.std.specs.Prelude.{◌≡◌, ℕ, ◌<◌, ◌≤◌, Bool, true, List, Some, slice_get}

-- the keys at two places, one after the other, are equal
pub record IsPair {K : Type 0} (eq : K → K → Bool) (keys : List K) (earlier later : ℕ) : Type 0 where
  pub before : earlier < later
  pub first : K
  pub first_at : slice_get keys earlier ≡ Some first
  pub second : K
  pub second_at : slice_get keys later ≡ Some second
  pub equal : eq first second ≡ true

abbrev pub HasNoPair : {K : Type 0} → (K → K → Bool) → List K → Type 0
HasNoPair eq keys = (i j : ℕ) → IsPair eq keys i j → ⊥

-- the first two equal keys: the later index is the smallest one, and for it the earlier index is
pub record IsFirstPair {K : Type 0} (eq : K → K → Bool) (keys : List K) (earlier later : ℕ) : Type 0 where
  pub pair : IsPair eq keys earlier later
  pub min_later : (i j : ℕ) → IsPair eq keys i j → later ≤ j
  pub min_earlier : (i : ℕ) → IsPair eq keys i later → earlier ≤ i

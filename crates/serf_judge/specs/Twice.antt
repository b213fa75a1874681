-- An item that appears twice in a list.
use Rattle.std.specs.Prelude.{◌≡◌, ℕ, ◌<◌, ◌≤◌, List, Some, slice_get}

-- the same item is at two places, one after the other
pub record IsTwice {X : Type 0} (items : List X) (earlier later : ℕ) : Type 0 where
  pub before : earlier < later
  pub item : X
  pub first_at : slice_get items earlier ≡ Some item
  pub second_at : slice_get items later ≡ Some item

abbrev pub HasNoTwo : {X : Type 0} → List X → Type 0
HasNoTwo items = (i j : ℕ) → IsTwice items i j → ⊥

-- the first two places of the same item: the later one is the smallest, and for it the earlier one is
pub record AreFirstTwo {X : Type 0} (items : List X) (earlier later : ℕ) : Type 0 where
  pub twice : IsTwice items earlier later
  pub min_later : (i j : ℕ) → IsTwice items i j → later ≤ j
  pub min_earlier : (i : ℕ) → IsTwice items i later → earlier ≤ i

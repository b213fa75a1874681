-- What it means that a node fired later than what it was handed before.
use Rattle.std.specs.Prelude.{◌≡◌, ℕ, ◌<◌, ◌≤◌, List, Some, slice_get}
use Rattle.serf_judge.specs.declared.entry.EventEntry.{EventEntry}

-- the event at this index was handed to the node that fires, on an earlier line, and the firing is not later than it
pub record IsNotLater (events : List EventEntry) (f : EventEntry) (place : ℕ) : Type 0 where
  pub event : EventEntry
  pub at : slice_get events place ≡ Some event
  pub node : event.node.items ≡ f.node.items
  pub before : event.line < f.line
  pub not_later : f.time ≤ event.time

-- the firing is later than everything that the node was handed before
abbrev pub IsLater : List EventEntry → EventEntry → Type 0
IsLater events f = (place : ℕ) → IsNotLater events f place → ⊥

abbrev pub AreAllLater : List EventEntry → List EventEntry → Type 0
AreAllLater fired events = (k : ℕ) (f : EventEntry) → slice_get fired k ≡ Some f → IsLater events f

-- the first firing that is not, and an event for which it is not
pub record IsFirstNotLater (fired events : List EventEntry) (k place : ℕ) : Type 0 where
  pub firing : EventEntry
  pub at : slice_get fired k ≡ Some firing
  pub breaks : IsNotLater events firing place
  pub lowest : (i : ℕ) (f : EventEntry) → i < k → slice_get fired i ≡ Some f → IsLater events f

-- entries in the order of their lines
abbrev pub IsInOrder : List EventEntry → Type 0
IsInOrder entries = (i j : ℕ) (e f : EventEntry) → i < j → slice_get entries i ≡ Some e → slice_get entries j ≡ Some f → e.line ≤ f.line

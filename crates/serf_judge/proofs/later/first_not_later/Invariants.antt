use Rattle.serf_judge.proofs.Names.{Some, length, take, ℕ, ◌<◌, ◌≡◌, ◌≤◌, slice_get, IsInOrder, IsLater, AreLargest, EventEntry}
use Rattle.serf_judge.proofs.later.first_not_later.Given as goal

-- what was fired so far is later, and the events that are recorded are on lines before everything that is fired from
-- here on
abbrev pub invariant-loop-place : goal.invariant-loop-place
invariant-loop-place l = ((k : ℕ) (f : EventEntry) → k < l.place → slice_get l.fired k ≡ Some f → IsLater l.events f)
    × (l.recorded ≤ length l.events) × AreLargest (take l.recorded l.events) l.largest
    × ((i : ℕ) (e : EventEntry) → i < l.recorded → slice_get l.events i ≡ Some e → (k : ℕ) (f : EventEntry) → l.place ≤ k → slice_get l.fired k ≡ Some f → e.line < f.line)
    × IsInOrder l.fired × IsInOrder l.events

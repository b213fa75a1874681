use Rattle.serf_judge.proofs.Names.{Some, length, take, ℕ, ◌-◌, ◌<◌, ◌≡◌, ◌≤◌, slice_get, AreLargest, EventEntry}
use Rattle.serf_judge.proofs.later.record_before.Given as goal

-- the first events are recorded, and are on lines before this one
abbrev pub invariant-events : goal.invariant-events
invariant-events l = l.fn.recorded ≤ length l.events → AreLargest (take l.fn.recorded l.events) l.fn.largest
    → ((i : ℕ) (e : EventEntry) → i < l.fn.recorded → slice_get l.events i ≡ Some e → e.line < l.line)
    → (l.place ≤ length l.events) × AreLargest (take l.place l.events) l.largest
    × ((i : ℕ) (e : EventEntry) → i < l.place → slice_get l.events i ≡ Some e → e.line < l.line)

abbrev pub decreases-events : goal.decreases-events
decreases-events l = length l.events - l.place

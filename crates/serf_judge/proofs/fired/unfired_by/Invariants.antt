use Rattle.serf_judge.proofs.Names.{List, Some, true, ℕ, ◌<◌, ◌≡◌, slice_get, was_fired, AreRecorded, EventEntry}
use Rattle.serf_judge.proofs.fired.unfired_by.Given as goal

abbrev pub invariant-loop-place : goal.invariant-loop-place
invariant-loop-place l = (fired : List EventEntry) → AreRecorded l.starts fired l.table → (k : ℕ) (e : EventEntry) → k < l.place → slice_get l.events k ≡ Some e → was_fired l.starts fired e ≡ true

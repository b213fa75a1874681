-- When a compaction is worth doing (`snapshot.go`, `appendLine` and `snapshotMaxSize`).
use Rattle.std.specs.Prelude.{◌≡◌, ℕ, ◌-◌, ◌*◌, ◌^◌, min, nat_lt, nat_le, Bool, ◌&&◌, List, length, Option, IfSome}
use Rattle.serf_snapshot.specs.AppendsLine.{SnapshotView, compaction_of}

-- the text is longer than the limit, and a compaction removes at least half of it
abbrev pub is_worth_compacting : ℕ → SnapshotView → List ℕ → Bool
is_worth_compacting limit s text = nat_lt limit (length text) && nat_le (2 * length (compaction_of s)) (length text)

-- the length of a text as it is counted: a count stays at 2^64 - 1
abbrev pub counted : List ℕ → ℕ
counted text = min (length text) (2 ^ 64 - 1)

-- the text is longer than the limit, and at least twice as long as the one that will replace it
abbrev pub is_worth_replacing : ℕ → List ℕ → List ℕ → Bool
is_worth_replacing limit new text = nat_lt limit (counted text) && nat_le (2 * length new) (counted text)

-- the length of a text, if the text is exposed
abbrev pub IsLengthOf : Option (List ℕ) → ℕ → Type 0
IsLengthOf durable kept = IfSome durable (λ (text : List ℕ). kept ≡ counted text)

-- A window's queries, as contracts see them.
use Rattle.std.specs.Prelude.{ℕ, ◌==◌, Bool}

-- whether two queries of one time are the same: their IDs are equal (`serf.go`, `handleQuery`)
abbrev pub same_id : ℕ → ℕ → Bool
same_id a b = a == b

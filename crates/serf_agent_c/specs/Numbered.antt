-- The queries that were handed out and wait for an answer, each with its number.
use Rattle.std.specs.Prelude.{ℕ, ◌==◌, ◌+◌, ◌≤◌, ◌<◌, nat_le, if◌then◌else◌, List, [], ◌∷◌, ◌++◌, Option, Some, None, All, AllPairs, filter}
use Rattle.serf_agent.specs.DeliveredQuery.{DeliveredQuery}
use Rattle.serf_agent_c.specs.declared.waiting.Waiting.{Waiting}

-- how many queries were handed out so far, which is the number of the latest one; and those that wait, each with its
-- number
pub record Numbered : Type 0 where
  pub handed : ℕ
  pub waiting : List (ℕ × DeliveredQuery)

abbrev pub numbered : Waiting → Numbered
numbered w = record { handed = w.handed; waiting = w.queries.items }

-- the same after one more is handed out, if one is: it has the next number; numbers begin at 1
abbrev pub with_handed : Option DeliveredQuery → Numbered → Numbered
with_handed None n = n
with_handed (Some q) n = record { handed = n.handed + 1; waiting = n.waiting ++ (n.handed + 1, q) ∷ [] }

-- the query with a number, if it waits
abbrev pub waiting_at : ℕ → List (ℕ × DeliveredQuery) → Option DeliveredQuery
waiting_at number [] = None
waiting_at number (w ∷ ws) = if w.0 == number then Some w.1 else waiting_at number ws

-- what waits without it
abbrev pub left_without : ℕ → List (ℕ × DeliveredQuery) → List (ℕ × DeliveredQuery)
left_without number [] = []
left_without number (w ∷ ws) = if w.0 == number then ws else w ∷ left_without number ws

abbrev pub without : ℕ → Numbered → Numbered
without number n = record { handed = n.handed; waiting = left_without number n.waiting }

-- those that can still be answered at a moment
abbrev pub in_time : ℕ → Numbered → Numbered
in_time now n = record { handed = n.handed; waiting = filter (λ w. nat_le now w.1.deadline) n.waiting }

-- The numbers rise, so each number appears once, and none is larger than the number of the latest query.
abbrev pub IsNumbered : Numbered → Type 0
IsNumbered n = AllPairs (λ v w. v.0 < w.0) n.waiting × All (λ w. w.0 ≤ n.handed) n.waiting

-- No query waits whose deadline was before a moment, and each number appears once.
abbrev pub WaitsInTime : ℕ → Numbered → Type 0
WaitsInTime now n = All (λ w. now ≤ w.1.deadline) n.waiting × IsNumbered n

-- The open queries of an agent, as the agent lends them to its caller.
use Rattle.std.specs.Prelude.{ℕ, min, List, [], ◌∷◌, Option, Some, None}
use Rattle.std.specs.Borrow.{Bor}
use Rattle.serf_agent.specs.declared.open_query.OpenQuery.{OpenQuery}
use Rattle.serf_agent.specs.declared.borrowed_queries.BorrowedQueries.{BorrowedQueries}

-- a query that is borrowed, with its time
abbrev pub borrowed_query : ℕ × Bor OpenQuery → ℕ × OpenQuery
borrowed_query q = (q.0, q.1.now)

-- the queries that the iterator has not returned yet
abbrev pub queries_left : BorrowedQueries → List (ℕ × OpenQuery)
queries_left left = left.queries

-- the minimum of some numbers
abbrev pub smaller : ℕ → Option ℕ → Option ℕ
smaller n None = Some n
smaller n (Some m) = Some (min m n)

abbrev pub lowest : List ℕ → Option ℕ
lowest [] = None
lowest (n ∷ ns) = smaller n (lowest ns)

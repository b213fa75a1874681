use Rattle.serf_conform.proofs.Names.{List, Option, [], drop, map, take, ℕ, ◌++◌, ◌+◌, range_with_len, is_serf, IsNarrowing, Call}
use Rattle.serf_conform.proofs.shrinking.narrow_by_one.Given as goal

-- The lists that were tried last are the single deletions for all positions before this one.
abbrev pub invariant-loop-at : goal.invariant-loop-at
invariant-loop-at g l = (whole : List Call) (input : List ℕ) (from : Option (List ℕ))
    → IsNarrowing (is_serf l.rules) l.config whole l.calls [] input (g.R.Read.remaining l.fn.pipe.reader) from (g.W.Write.contents l.fn.pipe.writer)
    → IsNarrowing (is_serf l.rules) l.config whole l.calls (map (λ i. take i l.calls ++ drop (i + 1) l.calls) (range_with_len 0 l.at)) input
    (g.R.Read.remaining l.pipe.reader) from (g.W.Write.contents l.pipe.writer)

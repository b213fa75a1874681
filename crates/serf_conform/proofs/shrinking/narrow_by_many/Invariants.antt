use Rattle.serf_conform.proofs.Names.{List, Option, [], length, ℕ, ◌-◌, ◌≤◌, is_serf, IsNarrowing, Call}
use Rattle.serf_conform.proofs.shrinking.narrow_by_many.Given as goal

abbrev pub invariant-chunks : goal.invariant-chunks
invariant-chunks g l = ((whole : List Call) (input : List ℕ) (from : Option (List ℕ))
    → IsNarrowing (is_serf l.rules) l.config whole l.calls [] input (g.R.Read.remaining l.fn.pipe.reader) from (g.W.Write.contents l.fn.pipe.writer)
    → IsNarrowing (is_serf l.rules) l.config whole l.calls [] input (g.R.Read.remaining l.pipe.reader) from (g.W.Write.contents l.pipe.writer))
    × (l.at ≤ length l.calls)

abbrev pub decreases-chunks : goal.decreases-chunks
decreases-chunks g l = length l.calls - l.at

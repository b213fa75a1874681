use Rattle.serf_conform.proofs.Names.{List, Option, [], length, ℕ, ◌+◌, is_serf, IsNarrowing, Call}
use Rattle.serf_conform.proofs.shrinking.settle.Given as goal

abbrev pub invariant-steps : goal.invariant-steps
invariant-steps g l = (whole : List Call) (input : List ℕ) (from : Option (List ℕ))
    → IsNarrowing (is_serf l.rules) l.config whole l.fn.calls.items [] input (g.R.Read.remaining l.fn.pipe.reader) from (g.W.Write.contents l.fn.pipe.writer)
    → IsNarrowing (is_serf l.rules) l.config whole l.calls.items [] input (g.R.Read.remaining l.pipe.reader) from (g.W.Write.contents l.pipe.writer)

abbrev pub decreases-steps : goal.decreases-steps
decreases-steps g l = length l.calls.items + l.size

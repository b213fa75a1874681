use Rattle.serf_write.proofs.Names.{length, ◌+◌, ◌≡◌, ◌≤◌, options_from}
use Rattle.serf_write.proofs.query_spec.apply_options.Given as goal

-- the options so far, and after them the remaining options, make up the result
abbrev pub invariant-options : goal.invariant-options
invariant-options l = (options_from l.place l.query_spec l.rest ≡ options_from l.fn.first l.fn.query_spec l.fn.tokens)
    × (l.place + length l.rest ≤ length l.fn.tokens + l.fn.first)

abbrev pub decreases-options : goal.decreases-options
decreases-options l = length l.rest

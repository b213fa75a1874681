use Rattle.serf_agent_c.proofs.Names.{length, map, ◌++◌, ◌≡◌, texts_left}
use Rattle.serf_agent_c.proofs.filters.write_lens.Given as goal

-- what was written so far, followed by what is left
abbrev pub invariant-loop-filter : goal.invariant-loop-filter
invariant-loop-filter l = l.out.items ++ map (λ filter. length filter) (texts_left l.filter-iterator) ≡ l.fn.out.items ++ map (λ filter. length filter) (texts_left l.fn.filters)

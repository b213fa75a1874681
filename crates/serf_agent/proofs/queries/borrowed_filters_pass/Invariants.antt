use Rattle.serf_agent.proofs.Names.{◌≡◌, texts_left, all_pass}
use Rattle.serf_agent.proofs.queries.borrowed_filters_pass.Given as goal

abbrev pub invariant-loop-filter : goal.invariant-loop-filter
invariant-loop-filter l = all_pass l.tags_pass (texts_left l.filter-iterator) l.node ≡ all_pass l.tags_pass (texts_left l.fn.filters) l.node

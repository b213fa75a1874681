use Rattle.serf_wire.proofs.Names.{arith, sym, ◌∙◌}
use Rattle.serf_wire.proofs.NodeFilters.{borrowed_filter, borrowed_passes}
use Rattle.serf_wire.proofs.filter.node_filter.Goals as goal

pub returns-clause-canonical : goal.returns-clause-canonical
returns-clause-canonical c = c.in_ok-write_node_filter.ensures ∙ borrowed_filter (λ t. t.now) c.args.names.now

pub returns-clause-passes : goal.returns-clause-passes
returns-clause-passes c =
    borrowed_passes c.laws_below.ensures (λ t. t.now) c.args.names.now c.in_ok-write_node_filter.field-0.items (c.in_ok-write_node_filter.ensures ∙ borrowed_filter (λ t. t.now) c.args.names.now) (omega arith)
    (sym c.has_long_text.ensures ∙ c.if-has_long_text.false)

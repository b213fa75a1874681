use Rattle.serf_wire.proofs.Names.{sym, ◌∙◌}
use Rattle.serf_wire.proofs.Passing.{passes_from, passes_is}
use Rattle.serf_wire.proofs.filter.passes.Goals as goal

pub returns : goal.returns
returns c = record {
  passes = (λ yes. passes_from c.laws_below.ensures c.args.filter.now c.args.node.now (sym c.lets_pass.ensures ∙ yes), λ p. c.lets_pass.ensures ∙ passes_is c.laws_below.ensures c.args.filter.now c.args.node.now p);
  exact = c.lets_pass.ensures;
}

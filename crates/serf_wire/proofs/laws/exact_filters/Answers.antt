use Rattle.serf_wire.proofs.Passing.{passes_from, passes_is}
use Rattle.serf_wire.proofs.laws.exact_filters.Goals as goal

pub returns : goal.returns
returns c = λ filter node. (passes_from c.laws_below.ensures filter node, passes_is c.laws_below.ensures filter node)

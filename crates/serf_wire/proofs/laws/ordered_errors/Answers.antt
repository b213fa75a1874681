use Rattle.serf_wire.proofs.ErrorOrder.{errors_ordered}
use Rattle.serf_wire.proofs.laws.ordered_errors.Goals as goal

pub returns : goal.returns
returns c = errors_ordered

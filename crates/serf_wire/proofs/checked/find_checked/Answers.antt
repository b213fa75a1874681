use Rattle.serf_wire.proofs.Names.{arith}
use Rattle.serf_wire.proofs.checked.find_checked.Goals as goal

pub shift-requires : goal.shift-requires
shift-requires c = omega (arith, c.in-Err.ensures.place)

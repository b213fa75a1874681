use Rattle.std.proofs.Common.{ap, arith, length}
use Rattle.serf_run_json.proofs.readable.count_of.Goals as goal

pub returns : goal.returns
returns c =
    let none = ap length c.in-None.ensures.steps.0 in
    omega (arith, none, c.loop-event.invariant.bounded, c.loop-event.invariant.all)

use Rattle.std.proofs.Common.{ap, arith}
use Rattle.std.specs.Prelude.{sum_by}
use Rattle.serf_run_json.specs.Readable.{count_in}
use Rattle.serf_run_json.proofs.readable.event_count.Goals as goal

pub returns : goal.returns
returns c =
    let none = ap (sum_by count_in) c.in-None.ensures.steps.0 in
    omega (arith, none, c.loop-slot.invariant.bounded, c.loop-slot.invariant.all)

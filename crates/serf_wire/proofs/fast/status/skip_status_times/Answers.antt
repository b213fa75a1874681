use Rattle.serf_wire.proofs.Names.{status_part_bytes}
use Rattle.serf_wire.proofs.FastLists.{nothing_walked, one_part_more}
use Rattle.serf_wire.proofs.fast.status.skip_status_times.Goals as goal

pub times-init : goal.times-init
times-init c = nothing_walked status_part_bytes c.args.bytes.now

pub times-preserved : goal.times-preserved
times-preserved c = one_part_more status_part_bytes c.times.counter c.args.bytes.now c.times.rest.now c.in-Some.following.now c.in-Some.ensures.part c.times.invariant c.in-Some.ensures.bytes_are

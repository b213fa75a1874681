use Rattle.serf_wire.proofs.Names.{refl, IsEventSoFar}
use Rattle.serf_wire.proofs.FastPairs.{nothing_read, more_read}
use Rattle.serf_wire.proofs.fast.event.read_pairs.Goals as goal

pub pairs-init : goal.pairs-init
pairs-init c = nothing_read IsEventSoFar _ c.args.bytes.now (record { keys = tt; time = refl; name = refl; payload = refl; coalesce = refl })

pub pairs-preserved : goal.pairs-preserved
pairs-preserved c = more_read IsEventSoFar c.laws_below.ensures c.pairs.found c.read_pair.new.found c.pairs.counter c.args.bytes.now c.pairs.rest.now c.in-Some.following.now c.pairs.invariant c.in-Some.ensures

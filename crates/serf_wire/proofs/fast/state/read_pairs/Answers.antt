use Rattle.serf_wire.proofs.Names.{refl, IsStateSoFar}
use Rattle.serf_wire.proofs.FastPairs.{nothing_read, more_read}
use Rattle.serf_wire.proofs.fast.state.read_pairs.Goals as goal

pub pairs-init : goal.pairs-init
pairs-init c = nothing_read IsStateSoFar _ c.args.bytes.now (record { keys = tt; member_clock = refl; status = refl; left = refl; event_clock = refl; slots = refl; query_clock = refl })

pub pairs-preserved : goal.pairs-preserved
pairs-preserved c = more_read IsStateSoFar c.laws_below.ensures c.pairs.found c.read_pair.new.found c.pairs.counter c.args.bytes.now c.pairs.rest.now c.in-Some.following.now c.pairs.invariant c.in-Some.ensures

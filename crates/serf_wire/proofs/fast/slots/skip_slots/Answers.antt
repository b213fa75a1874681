use Rattle.serf_wire.proofs.Names.{Item, slot}
use Rattle.serf_wire.proofs.FastLists.{nothing_walked, one_item_more}
use Rattle.serf_wire.proofs.fast.slots.skip_slots.Goals as goal

pub slots-init : goal.slots-init
slots-init c = nothing_walked (λ (t : Item 6 slot). t.front) c.args.bytes.now

pub slots-preserved : goal.slots-preserved
slots-preserved c = one_item_more 6 slot c.slots.counter c.args.bytes.now c.slots.rest.now c.in-Some.following.now c.slots.invariant (record { value = _; reads = c.in-Some.ensures })

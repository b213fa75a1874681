use Rattle.serf_wire.proofs.Names.{Item, event_body}
use Rattle.serf_wire.proofs.FastLists.{nothing_walked, one_item_more}
use Rattle.serf_wire.proofs.fast.slots.skip_events.Goals as goal

pub events-init : goal.events-init
events-init c = nothing_walked (λ (t : Item 8 event_body). t.front) c.args.bytes.now

pub events-preserved : goal.events-preserved
events-preserved c = one_item_more 8 event_body c.events.counter c.args.bytes.now c.events.rest.now c.in-Some.following.now c.events.invariant (record { value = _; reads = c.in-Some.ensures })

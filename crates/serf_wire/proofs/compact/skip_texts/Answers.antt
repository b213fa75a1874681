use Rattle.serf_wire.proofs.Names.{Item, text}
use Rattle.serf_wire.proofs.FastReading.{anywhere}
use Rattle.serf_wire.proofs.FastLists.{nothing_walked, one_item_more}
use Rattle.serf_wire.proofs.compact.skip_texts.Goals as goal

pub texts-init : goal.texts-init
texts-init c = nothing_walked (λ (t : Item 9 text). t.front) c.args.bytes.now

pub texts-preserved : goal.texts-preserved
texts-preserved c = one_item_more 9 text c.texts.counter c.args.bytes.now c.texts.rest.now c.in-Some.following.now c.texts.invariant (record { value = _; reads = anywhere 9 text _ c.texts.rest.now c.in-Some.following.now c.in-Some.ensures })

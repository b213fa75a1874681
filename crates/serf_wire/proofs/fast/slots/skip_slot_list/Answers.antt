use Rattle.serf_wire.proofs.Names.{[], arith, refl, list, slot}
use Rattle.serf_wire.proofs.FastPairs.{if_some}
use Rattle.serf_wire.proofs.FastLists.{nil_spans, list_spans}
use Rattle.serf_wire.proofs.fast.slots.skip_slot_list.Goals as goal

pub returns-in-Some : goal.returns-in-Some
returns-in-Some c = nil_spans 5 (list slot) [] c.args.bytes.now c.in-Some.rest.now (λ p. refl) c.in-Some.ensures

pub returns-in_ok-count-in-None : goal.returns-in_ok-count-in-None
returns-in_ok-count-in-None c = if_some c.skip_slots.result _ _ (λ rest a. list_spans c.laws_below.ensures 5 slot c.args.bytes.now c.in_ok-count-in-None.items.now rest.now (omega arith) c.in_ok-count-in-None.count c.in_ok-count-in-None.ensures a) c.skip_slots.ensures

use Rattle.serf_wire.proofs.Names.{arith, event_body}
use Rattle.serf_wire.proofs.FastPairs.{if_some}
use Rattle.serf_wire.proofs.FastLists.{list_spans}
use Rattle.serf_wire.proofs.fast.slots.skip_event_list.Goals as goal

pub returns : goal.returns
returns c = if_some c.skip_events.result _ _ (λ rest a. list_spans c.laws_below.ensures 7 event_body c.args.bytes.now c.in_ok-count.items.now rest.now (omega arith) c.in_ok-count.count c.in_ok-count.ensures a) c.skip_events.ensures

use Rattle.serf_wire.proofs.Names.{[], refl, status}
use Rattle.serf_wire.proofs.FastPairs.{if_some}
use Rattle.serf_wire.proofs.FastLists.{nil_spans}
use Rattle.serf_wire.proofs.FastStatus.{status_spans}
use Rattle.serf_wire.proofs.fast.status.skip_status.Goals as goal

pub returns-in-Some : goal.returns-in-Some
returns-in-Some c = nil_spans 8 status [] c.args.bytes.now c.in-Some.rest.now (λ p. refl) c.in-Some.ensures

pub returns-in_ok-count-in-None : goal.returns-in_ok-count-in-None
returns-in_ok-count-in-None c = if_some c.skip_status_times.result _ _ (λ rest a. status_spans c.laws_below.ensures c.in_ok-count-in-None.count c.args.bytes.now c.in_ok-count-in-None.pairs.now rest.now c.in_ok-count-in-None.ensures a) c.skip_status_times.ensures

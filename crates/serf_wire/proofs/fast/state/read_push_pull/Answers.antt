use Rattle.serf_wire.proofs.Names.{eqb-true, sym, push_pull_said}
use Rattle.serf_wire.proofs.FastPairs.{none_left}
use Rattle.serf_wire.proofs.FastState.{state_whole}
use Rattle.serf_wire.proofs.fast.state.read_push_pull.Goals as goal

pub returns : goal.returns
returns c =
    state_whole (push_pull_said c.state_of.result) c.in-Some.found c.in_ok-count.count c.args.bytes.now c.in_ok-count.pairs.now c.in-Some.end.now c.in_ok-count.ensures.head c.in_ok-count.ensures.small
    (none_left c.in-Some.end.now (eqb-true _ _ (sym c.if-not-is_empty.ensures))) c.in-Some.ensures c.state_of.ensures

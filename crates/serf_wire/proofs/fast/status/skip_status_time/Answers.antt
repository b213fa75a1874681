use Rattle.serf_wire.proofs.FastStatus.{status_time_spans}
use Rattle.serf_wire.proofs.fast.status.skip_status_time.Goals as goal

pub returns : goal.returns
returns c = status_time_spans _ _ c.args.bytes.now c.in_ok-number.number.now c.in_ok-rest.rest.now c.in_ok-number.ensures c.in_ok-rest.ensures

use Rattle.serf_run_json.proofs.ObjectLaws.{more-added}
use Rattle.serf_run_json.proofs.reasons.write_reasons.Goals as goal

pub loop-line-preserved-in-Some-reason_in : goal.loop-line-preserved-in-Some-reason_in
loop-line-preserved-in-Some-reason_in c = more-added _ _ _ _ c.loop-line.invariant c.in_ok-next.ensures

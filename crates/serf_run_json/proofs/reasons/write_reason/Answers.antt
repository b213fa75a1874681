use Rattle.serf_run_json.proofs.ObjectLaws.{one-added}
use Rattle.serf_run_json.proofs.reasons.write_reason.Goals as goal

pub returns : goal.returns
returns c = one-added c.write_joined.result _ _ _ _ c.write_joined.ensures

use Rattle.serf_conform.proofs.Names.{is_serf}
use Rattle.serf_conform.proofs.TrialLemmas.{tried_by}
use Rattle.serf_conform.proofs.trying.try_calls.Goals as goal

pub returns : goal.returns
returns g c =
    tried_by (is_serf c.args.rules) c.args.config.now c.args.calls.now _ _ _ c.in_ok-verdict.verdict _ _ _ _ _
    c.in_ok-schedule.ensures c.in-Ok.ensures c.deref.ensures.value c.outcome_at.ensures c.in_ok-verdict.ensures

use Rattle.serf_conform.proofs.SessionLemmas.{outcome_then}
use Rattle.serf_conform.proofs.asking.call_and_look.Goals as goal

pub returns : goal.returns
returns g c = outcome_then _ _ _ _ _ _ _ _ _ _ _ _ _ c.in_ok-outcome.ensures.outcome c.in_ok-outcome.ensures.written c.look_if_due.ensures

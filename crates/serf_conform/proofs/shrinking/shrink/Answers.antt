use Rattle.serf_conform.proofs.Names.{is_serf}
use Rattle.serf_conform.proofs.TrialLemmas.{shrunk_first}
use Rattle.serf_conform.proofs.shrinking.shrink.Goals as goal

pub returns-in-Ok : goal.returns-in-Ok
returns-in-Ok g c =
    shrunk_first (is_serf c.args.rules) c.args.config.now c.args.calls.items c.deref.result.now _ _ _ _ _ _ c.in-Ok.shrunk c.deref.ensures.value
    c.in_ok-try_calls.ensures c.in-Fails.is c.in-Ok.ensures

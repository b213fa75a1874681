use Rattle.serf_conform.proofs.Names.{parsed_of}
use Rattle.serf_conform.proofs.MissingLemmas.{left_schedule}
use Rattle.serf_conform.proofs.missing.without.Goals as goal

pub returns : goal.returns
returns c =
    left_schedule c.args.missing (parsed_of c.args.schedule) _ _ _ _
    c.in_ok-agents.ensures (c.in_ok-calls.ensures _ c.in_ok-case.ensures) c.deref.ensures.value c.in_ok-actions.ensures

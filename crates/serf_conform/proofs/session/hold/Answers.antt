use Rattle.serf_conform.proofs.Names.{sym, ◌∙◌}
use Rattle.serf_conform.proofs.SessionLemmas.{opened_all}
use Rattle.serf_conform.proofs.session.hold.Goals as goal

pub returns : goal.returns
returns g c =
    opened_all _ _ _ _ _ _ _ _ _ _ _ _ _ _ _ _ _ c.in_ok-outcome.ensures (sym c.ending.ensures ∙ c.in_default.is) c.counted-tally.ensures
    (λ w from h. c.compare_turns.ensures w from c.in_ok-solo.ensures h) c.as_slice-lines.ensures c.as_slice-sent.ensures

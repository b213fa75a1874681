use Rattle.serf_conform.proofs.Names.{List, Some, ap, length, ℕ, ◌∙◌, solo_cluster}
use Rattle.serf_conform.proofs.SoloLemmas.{sent_at, sent_on}
use Rattle.serf_conform.proofs.solo.send_solo.Goals as goal

pub returns-clause-solo : goal.returns-clause-solo
returns-clause-solo c = λ config made is.
    sent_on config made c.args.world.now _ _ _ (c.in_ok-step.ensures.step (solo_cluster config made c.args.world.now) is.view is.representable)

pub returns-clause-sent : goal.returns-clause-sent
returns-clause-sent c = λ config made is.
    sent_at config made c.args.world.now _ _ _ _ (c.in_ok-step.ensures.step (solo_cluster config made c.args.world.now) is.view is.representable) (ap length c.sent.ensures)
    ∙ ap (λ (b : List ℕ). Some b) c.in_ok-bytes.ensures

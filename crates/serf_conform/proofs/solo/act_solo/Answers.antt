use Rattle.serf_conform.proofs.Names.{solo_cluster}
use Rattle.serf_conform.proofs.SoloLemmas.{acted_on}
use Rattle.serf_conform.proofs.solo.act_solo.Goals as goal

pub returns : goal.returns
returns c = λ config made call is does.
    acted_on config made call c.args.world.now _ c.args.act _ does (c.in_ok-step.ensures.step (solo_cluster config made c.args.world.now) is.view is.representable)

use Rattle.serf_world.proofs.Names.{List, arith, subst, true, ◌≡◌, common_steps, AllByRecursion, is_sound, view_of, Config, first_node, opened_first, node_of}
use Rattle.serf_world.proofs.world.open_all.Goals as goal

pub loop-config-preserved : goal.loop-config-preserved
loop-config-preserved c =
    let born : c.in_ok-agent.agent.concrete ≡ view_of (opened_first c.in-Some.config) = c.in_ok-agent.ensures.first in
    let node : record { concrete = c.in_ok-agent.agent.concrete; handed = c.new.result.items } ≡ node_of (first_node c.in-Some.config) = λ k. record { concrete = born k; handed = c.new.ensures.items k } in
    record { nodes = grind (arith, common_steps, node); sound = (subst (λ (l : List Config). AllByRecursion (λ c. is_sound c ≡ true) l) c.in-Some.ensures.steps.0 c.loop-config.invariant.sound).1 }

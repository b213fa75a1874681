use Rattle.serf_world.proofs.Names.{inr, refl, start}
use Rattle.serf_world.proofs.running.run_exactly.Goals as goal

pub returns-in-Ok-run_in : goal.returns-in-Ok-run_in
returns-in-Ok-run_in c =
    let world = c.in-Ok-new.ensures in
    rw (← c.in-Ok.ensures.agents) (world.configs, c.in-Ok-run_in.ensures.done (start c.in-Ok.roster) world.start world.representable refl)

pub returns-in-Err : goal.returns-in-Err
returns-in-Err c =
    let world = c.in-Ok-new.ensures in
    let m = c.in-Err.ensures.memory (start c.in-Ok.roster) world.start world.representable refl in
    rw (← c.in-Ok.ensures.agents) (m.0, inr m.1, inr world.configs, m.2)

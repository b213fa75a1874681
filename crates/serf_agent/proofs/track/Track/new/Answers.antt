use Rattle.serf_agent.proofs.Names.{arith, ◌<◌}
use Rattle.serf_agent.proofs.track.Track.new.Goals as goal

pub invariant_of-result : goal.invariant_of-result
invariant_of-result g c =
    let clock = c.new-2.result in
    let pos : 0 < clock = omega (arith, c.new-2.ensures) in
    let some : 0 < c.in-Ok.window.per_time = omega (arith, c.in-Ok.ensures.per_time, c.requires.some_of_time) in
    (some, c.in-Ok.ensures.below clock pos)

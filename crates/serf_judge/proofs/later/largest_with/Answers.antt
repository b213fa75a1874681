use Rattle.serf_judge.proofs.Names.{arith, max, refl, ◌≡◌, common_steps}
use Rattle.serf_judge.proofs.LaterLaws.{largest-more}
use Rattle.serf_judge.proofs.later.largest_with.Goals as goal

pub returns-in-Some : goal.returns-in-Some
returns-in-Some c = λ lowest.
    let top : c.max.result ≡ max c.args.time c.in-Some.recorded.now = grind (arith, common_steps, c.max.ensures) in
    rw (top, ← c.in-Some.ensures.value) (largest-more c.args.time c.in-Some.recorded.now lowest)

pub returns-in-None : goal.returns-in-None
returns-in-None c = λ lowest. rw (← c.in-None.ensures.value) refl

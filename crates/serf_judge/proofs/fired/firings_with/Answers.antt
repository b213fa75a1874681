use Rattle.serf_judge.proofs.Names.{arith, max, min, refl, ◌≡◌, common_steps}
use Rattle.serf_judge.proofs.FiredLaws.{counts-more}
use Rattle.serf_judge.proofs.fired.firings_with.Goals as goal

pub returns-in-Some : goal.returns-in-Some
returns-in-Some c = λ at.
    let recorded = c.in-Some.recorded.now in
    let first : c.min.result ≡ min recorded.first_line c.args.line = grind (arith, common_steps, c.min.ensures) in
    let last : c.max.result ≡ max recorded.last_log c.args.log = grind (arith, common_steps, c.max.ensures) in
    rw (first, last, ← c.in-Some.ensures.value) (counts-more recorded.first_line c.args.log c.args.line recorded.last_log at)

pub returns-in-None : goal.returns-in-None
returns-in-None c = λ at. rw (← c.in-None.ensures.value) refl

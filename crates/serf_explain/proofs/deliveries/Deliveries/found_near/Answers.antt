use Rattle.serf_explain.proofs.Names.{None, Some, ◌≡◌}
use Rattle.serf_explain.proofs.deliveries.Deliveries.found_near.Goals as goal

pub returns-in-None-clause-place : goal.returns-in-None-clause-place
returns-in-None-clause-place c = λ stands. let both : None ≡ Some c.args.place = c.in-None.ensures.place stands in absurd (cc both)

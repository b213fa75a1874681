use Rattle.serf_judge.proofs.Names.{ap, length, sym, unwrap_or, ◌∙◌}
use Rattle.serf_judge.proofs.fired.log_of.Goals as goal

pub returns-in-Some : goal.returns-in-Some
returns-in-Some c = ap (λ p. unwrap_or p (length c.args.starts.now)) (sym c.in-Some.is ∙ c.next_start.ensures)

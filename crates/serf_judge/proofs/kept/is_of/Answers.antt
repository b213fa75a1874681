use Rattle.serf_judge.proofs.Names.{ap, ℕ, ◌∙◌, bytes_eq, Identity}
use Rattle.serf_judge.proofs.kept.is_of.Goals as goal

pub returns : goal.returns
returns g c = c.eq.ensures ∙ ap (λ (s : ℕ × Identity). bytes_eq s.1.node c.args.node.now) c.handed.ensures

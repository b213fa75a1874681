use Rattle.serf_judge.proofs.Names.{map, IfOk-weaker, event_identity}
use Rattle.serf_judge.proofs.OnceLaws.{none-once}
use Rattle.serf_judge.proofs.once.first_event_twice.Goals as goal

pub returns-clause-once : goal.returns-clause-once
returns-clause-once c = λ turns stands. IfOk-weaker c.first_twice.result _ _ (λ pair h. none-once pair (map event_identity c.args.entries.now) stands stands.apart stands.named h) c.first_twice.ensures

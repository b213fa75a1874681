use Rattle.serf_judge.proofs.Names.{map, IfOk-weaker, query_identity}
use Rattle.serf_judge.proofs.OnceLaws.{none-once}
use Rattle.serf_judge.proofs.once.first_query_twice.Goals as goal

pub returns-clause-once : goal.returns-clause-once
returns-clause-once c = λ turns stands. IfOk-weaker c.first_twice.result _ _ (λ pair h. none-once pair (map query_identity c.args.entries.now) stands stands.apart stands.named h) c.first_twice.ensures

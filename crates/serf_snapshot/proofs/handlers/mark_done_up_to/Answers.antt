use Rattle.serf_snapshot.proofs.Names.{rules}
use Rattle.std.specs.Prelude.{nat_lt}
use Rattle.std.proofs.lemmas.Fn.{filter_same}
use Rattle.serf_snapshot.proofs.handlers.mark_done_up_to.Goals as goal

pub returns : goal.returns
returns c = filter_same _ (λ x. nat_lt c.args.time x.event.time) _ (λ x b q call. (search rules, search rules)) _ _ c.retain.ensures.filtered

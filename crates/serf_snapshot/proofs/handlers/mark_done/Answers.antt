use Rattle.serf_snapshot.proofs.Names.{rules, not}
use Rattle.std.proofs.lemmas.Fn.{filter_same}
use Rattle.serf_snapshot.specs.Handlers.{same_event}
use Rattle.serf_snapshot.proofs.handlers.mark_done.Goals as goal

pub returns : goal.returns
returns c = filter_same _ (λ x. not (same_event c.args.event.now x.event)) _ (λ x b q call. (search rules, search rules)) _ _ c.retain.ensures.filtered

use Rattle.serf_draw.proofs.Names.{rules, filter_same, has_name}
use Rattle.serf_draw.proofs.options.keep_named.Goals as goal

pub returns : goal.returns
returns c = filter_same _ (has_name c.args.name.now) _ (λ x b q call. (search rules, search rules)) _ _ c.retain.ensures.filtered

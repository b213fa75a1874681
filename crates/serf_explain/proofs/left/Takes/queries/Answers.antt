use Rattle.serf_explain.proofs.Names.{ap, ◌∙◌, ◌≡◌, Config, mark_after}
use Rattle.serf_explain.proofs.left.Takes.queries.Goals as goal

pub returns : goal.returns
returns c = λ q. record {
  lowest = (c.following.ensures ∙ ap (λ x. mark_after c.args.before.now x c.args.action) c.query_minimum.ensures) q;
  clock = c.query_time.ensures q;
  slots = ap (λ (k : Config). k.query_buffer) c.config-config.ensures.config q;
  per_time = ap (λ (k : Config). k.per_time) c.config-config.ensures.config q;
}

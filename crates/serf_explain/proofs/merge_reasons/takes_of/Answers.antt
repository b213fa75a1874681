use Rattle.serf_explain.proofs.Names.{ap, Config}
use Rattle.serf_explain.proofs.merge_reasons.takes_of.Goals as goal

pub returns : goal.returns
returns c = λ q. record {
  lowest = c.following.ensures q;
  clock = c.args.judge.now.clock;
  slots = ap (λ (k : Config). k.event_buffer) c.config-config.ensures.config q;
  per_time = ap (λ (k : Config). k.per_time) c.config-config.ensures.config q;
}

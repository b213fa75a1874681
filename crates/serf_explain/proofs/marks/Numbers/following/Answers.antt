use Rattle.serf_explain.proofs.Names.{ap, ◌∙◌, mark_after}
use Rattle.serf_explain.proofs.marks.Numbers.following.Goals as goal

pub returns : goal.returns
returns c =
    let old = c.args.self.now in
    let n = c.args.action in
    λ q. record {
      event_clock = (c.following.ensures ∙ ap (λ x. mark_after old.event_clock x n) c.event_time.ensures) q;
      query_clock = (c.following-2.ensures ∙ ap (λ x. mark_after old.query_clock x n) c.query_time.ensures) q;
      event_minimum = (c.following-3.ensures ∙ ap (λ x. mark_after old.event_minimum x n) c.event_minimum.ensures) q;
      query_minimum = (c.following-4.ensures ∙ ap (λ x. mark_after old.query_minimum x n) c.query_minimum.ensures) q;
    }

use Rattle.serf_judge_json.proofs.Names.{nat_le, rules, always_returns_same}
use Rattle.serf_judge_json.proofs.PlaceLaws.{in-order}
use Rattle.serf_judge_json.proofs.places.is_in_order.Goals as goal

pub returns : goal.returns
returns c = in-order c.args.dates.now c.is_sorted_by.result (c.is_sorted_by.ensures.cases (λ x y. nat_le x.line y.line) (always_returns_same _ _ _ (λ a r q k. search rules)))

use Rattle.serf_judge_json.proofs.Names.{ap, nat_lt, rules, sym, true≢false, ◌∙◌, lt-ltb, ltb-true, IsPartitionPoint-from_clause, IsPartitionedBy-ltb, DatedLine}
use Rattle.serf_judge_json.proofs.PlaceLaws.{IsPlaceOf, found_there, found_nowhere}
use Rattle.serf_judge_json.proofs.places.dated_in_order.Goals as goal
use Rattle.serf_judge_json.proofs.places.dated_in_order.Goals.{in_default-via-in-Some+else-found-line, in_default-via-in_default}

pub returns-in-Some : goal.returns-in-Some
returns-in-Some c =
    let dates = c.args.dates.now in
    let place = c.partition_point-place.result in
    let point : IsPlaceOf c.args.line dates place = IsPartitionPoint-from_clause (λ (y : DatedLine). nat_lt y.line c.args.line) dates place c.partition_point-place.ensures.partitioned (IsPartitionedBy-ltb (λ (y : DatedLine). y.line) dates c.args.line c.requires) (λ a r q k. search rules) in
    sym (found_there dates c.args.line place c.in-Some.found.now point (ltb-true _ _ (sym c.in-Some.ensures.lookup.0)) c.in-Some.ensures.lookup.1 c.if-found-line.true)

pub returns-in_default : goal.returns-in_default
returns-in_default c =
    let dates = c.args.dates.now in
    let place = c.partition_point-place.result in
    let point : IsPlaceOf c.args.line dates place = IsPartitionPoint-from_clause (λ (y : DatedLine). nat_lt y.line c.args.line) dates place c.partition_point-place.ensures.partitioned (IsPartitionedBy-ltb (λ (y : DatedLine). y.line) dates c.args.line c.requires) (λ a r q k. search rules) in
    sym (found_nowhere dates c.args.line place c.requires point (elim c.in_default.branch [
      | in_default-via-in-Some+else-found-line w ↦ λ d lt e. w.if-found-line.false (ap (λ (x : DatedLine). x.line) (w.in-Some.ensures.lookup.3.1 d) ∙ e)
      | in_default-via-in_default w ↦ λ d lt e. true≢false (sym (lt-ltb _ _ lt) ∙ sym w.in_default.ensures.lookup.0)
    ]))

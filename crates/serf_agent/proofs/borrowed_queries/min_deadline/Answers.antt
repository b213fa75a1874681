use Rattle.serf_agent.proofs.Names.{ap, arith, get_or, length, map, sym, take, ◌<◌, ◌∙◌, map_more, lowest, smaller, OpenQuery}
use Rattle.serf_agent.proofs.Deadlines.{lowest-append}
use Rattle.serf_agent.proofs.borrowed_queries.min_deadline.Goals as goal

pub loop-query-preserved : goal.loop-query-preserved
loop-query-preserved c =
    let within : c.loop-query.query-index < length c.args.queries.now = omega arith in
    let more = map_more (λ (q : OpenQuery). q.deadline) c.args.queries.now c.loop-query.query-index c.query-item.result within in
    let read = ap (λ (q : OpenQuery). smaller q.deadline (lowest (map (λ p. p.deadline) (take c.loop-query.query-index c.args.queries.now)))) (sym c.query-item.is) in
    c.earlier.ensures ∙ ap (smaller c.query-item.result.deadline) c.loop-query.invariant
    ∙ sym (ap lowest more ∙ lowest-append (map (λ (q : OpenQuery). q.deadline) (take c.loop-query.query-index c.args.queries.now)) (get_or c.args.queries.now c.loop-query.query-index c.query-item.result).deadline ∙ read)

use Rattle.serf_agent.proofs.Names.{List, ap, arith, filter, length, nat_lt, sym, ℕ, ◌∙◌, ◌≡◌, true≢false, OpenQuery}
use Rattle.serf_agent.proofs.TakenQueries.{count-due, taking-none, taking-next, taking-one, taking-room}
use Rattle.serf_agent.proofs.open_queries.OpenQueries.take_due.Goals.{in-Some, in_default}
use Rattle.serf_agent.proofs.open_queries.OpenQueries.take_due.Goals as goal

pub returns-in_err-closed-clause-none_due : goal.returns-in_err-closed-clause-none_due
returns-in_err-closed-clause-none_due c = λ none.
    let counted = c.count_due.ensures ∙ ap (λ (l : List OpenQuery). length (filter (λ q. nat_lt q.deadline c.args.now) l)) c.values.ensures ∙ count-due c.args.now c.args.self.now in
    let zero = counted ∙ ap (λ (l : List (ℕ × OpenQuery)). length l) none in
    absurd (true≢false (sym (c.in_err-closed.ensures.succeeds zero)))

pub loop-index-init : goal.loop-index-init
loop-index-init c =
    let counted = c.count_due.ensures ∙ ap (λ (l : List OpenQuery). length (filter (λ q. nat_lt q.deadline c.args.now) l)) c.values.ensures ∙ count-due c.args.now c.args.self.now in
    rw (c.in_ok-closed.ensures.items) (taking-none c.args.now c.args.self.now, omega (arith, counted, c.in_ok-closed.ensures.capacity))

pub push_reserved-requires : goal.push_reserved-requires
push_reserved-requires c =
    let one = c.in-Some.ensures.taken in
    let room = taking-room c.args.now c.args.self.now c.loop-index.self c.loop-index.closed.items c.loop-index.index c.in-Some.query c.loop-index.invariant.0 one.was one.due in
    omega (arith, room, c.loop-index.invariant.1)

pub loop-index-preserved : goal.loop-index-preserved
loop-index-preserved c = let long : c.len-index-end.result ≡ length c.args.self.now = c.len-index-end.ensures.len ∙ ap (λ (l : List (ℕ × OpenQuery)). length l) c.self.view_is in elim c.match-take_if_due.branch [
  | in-Some w ↦ (
    rw (w.closed-is, w.push_reserved.ensures.items) (taking-one c.args.now c.args.self.now c.loop-index.self c.take_if_due.new.self c.loop-index.closed.items c.loop-index.index w.in-Some.query c.loop-index.invariant.0 w.in-Some.ensures.taken),
    rw (w.closed-is, w.push_reserved.ensures.capacity) (c.loop-index.invariant.1),
  )
  | in_default w ↦ (
    rw (w.closed-is, w.in_default.ensures.stays) (taking-next c.args.now c.args.self.now c.loop-index.self c.loop-index.closed.items c.loop-index.index (omega (arith, c.loop-index-test.true, long)) c.loop-index.invariant.0 w.in_default.ensures.not_due),
    rw (w.closed-is) (c.loop-index.invariant.1),
  )
]

use Rattle.serf_judge.proofs.Names.{List, Some, arith, get_or, subst, sym, take, ℕ, ◌<◌, ◌∙◌, ◌≡◌, ◌≤◌, slice_get-get_or, slice_get_within, slice_get, AreLargest, EventEntry}
use Rattle.serf_judge.proofs.LaterLaws.{cut-at}
use Rattle.serf_judge.proofs.PlaceLaws.{below-or-here}
use Rattle.serf_judge.proofs.TallyLaws.{take-next}
use Rattle.serf_judge.proofs.later.record_before.Goals as goal

pub events-preserved : goal.events-preserved
events-preserved c = λ within h inside.
    let events = c.args.events.now in
    let place : ℕ = c.events.place in
    let inv = c.events.invariant within h inside in
    let event : EventEntry = c.index-events-place-in-events.result in
    let first : EventEntry = get_or events place c.index-events-place.result in
    let at : slice_get events place ≡ Some first = slice_get-get_or events place c.index-events-place.result c.events-test.true in (
      omega (arith, c.events-test.true),
      subst (λ (es : List EventEntry). AreLargest es c.record_entry.new.largest) (sym (take-next events place event c.events-test.true c.index-events-place-in-events.is)) (c.in_ok-record_entry.ensures (take place events) inv.1),
      below-or-here (λ e. e.line < c.args.line) events place first at inv.2 c.if-events-place.true,
    )

pub returns-else-events-place : goal.returns-else-events-place
returns-else-events-place c = λ within h order inside.
    let events = c.args.events.now in
    let place : ℕ = c.events.place in
    let inv = c.events.invariant within h inside in
    let first : EventEntry = get_or events place c.index-events-place.result in
    let at : slice_get events place ≡ Some first = slice_get-get_or events place c.index-events-place.result c.events-test.true in
    let high : c.args.line ≤ first.line = c.if-events-place.false in
    (inv.0, inv.1, cut-at events place c.args.line order inv.2 (λ e there. let same : first ≡ e = one-item first e (sym at ∙ there) in subst (λ (x : EventEntry). c.args.line ≤ x.line) same high))
  where
    one-item : (x y : EventEntry) → Some x ≡ Some y → x ≡ y
    one-item x y e = cc e

pub returns-after-events : goal.returns-after-events
returns-after-events c = λ within h order inside.
    let events = c.args.events.now in
    let inv = c.events.invariant within h inside in
    let end = c.events-test.false in
    (inv.0, inv.1, cut-at events c.events.place c.args.line order inv.2 (λ e there. let lt = slice_get_within events c.events.place e there in absurd (omega (arith, lt, end))))

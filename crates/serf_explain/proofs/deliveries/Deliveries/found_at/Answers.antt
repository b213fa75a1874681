use Rattle.serf_explain.proofs.Names.{List, None, Some, ap, false, sym, true, ◌∙◌, ◌≡◌, slice_get-get_or, slice_get_past, slice_get, event_of, Delivery}
use Rattle.serf_explain.proofs.RecordLaws.{recorded-at, stands-out}
use Rattle.serf_explain.proofs.deliveries.Deliveries.found_at.Goals as goal

pub returns-clause-recorded : goal.returns-clause-recorded
returns-clause-recorded c =
    let there = c.in_ok-out.ensures.lookup in
    let out = c.in_ok-out.out.now in
    let at : slice_get c.args.self.now.outs.items c.args.place ≡ Some out =
    ap (λ (hs : List Delivery). slice_get hs c.args.place) (sym c.deref.ensures.value) ∙ slice_get-get_or c.deref.result.now c.args.place out there.3.0 ∙ ap (λ (o : Delivery). Some o) (sym there.1) in
    recorded-at c.args.self.now.outs.items c.args.place c.args.agent c.args.event.now.time (event_of c.args.event.now.name.now c.args.event.now.payload.now) out at
    (sym c.hands.ensures ∙ c.if-not-hands.false)

pub returns-then-not-hands-clause-place : goal.returns-then-not-hands-clause-place
returns-then-not-hands-clause-place c = λ stands.
    let there = c.in_ok-out.ensures.lookup in
    let out = c.in_ok-out.out.now in
    let at : slice_get c.args.self.now.outs.items c.args.place ≡ Some out =
    ap (λ (hs : List Delivery). slice_get hs c.args.place) (sym c.deref.ensures.value) ∙ slice_get-get_or c.deref.result.now c.args.place out there.3.0 ∙ ap (λ (o : Delivery). Some o) (sym there.1) in
    let both : true ≡ false = sym stands ∙ stands-out c.args.self.now.outs.items c.args.place c.args.agent c.args.event.now.time (event_of c.args.event.now.name.now c.args.event.now.payload.now) (Some out) at ∙ sym c.hands.ensures ∙ c.if-not-hands.true in
    absurd (cc both)

pub returns-in_err-out-clause-place : goal.returns-in_err-out-clause-place
returns-in_err-out-clause-place c = λ stands.
    let at : slice_get c.args.self.now.outs.items c.args.place ≡ None =
    ap (λ (hs : List Delivery). slice_get hs c.args.place) (sym c.deref.ensures.value) ∙ slice_get_past c.deref.result.now c.args.place c.in_err-out.ensures.lookup.3 in
    let both : true ≡ false = sym stands ∙ stands-out c.args.self.now.outs.items c.args.place c.args.agent c.args.event.now.time (event_of c.args.event.now.name.now c.args.event.now.payload.now) None at in
    absurd (cc both)

use Rattle.serf_explain.proofs.Names.{Bool, List, None, Some, ap, sym, ◌∙◌, ◌≡◌, find, option_copied, event_of, is_record, record_in, Delivery}
use Rattle.serf_explain.proofs.RecordLaws.{first-recorded, none-recorded}
use Rattle.serf_explain.proofs.deliveries.Deliveries.first_of.Goals as goal

pub returns-in-Some : goal.returns-in-Some
returns-in-Some c =
    let what = event_of c.args.event.now.name.now c.args.event.now.payload.now in
    let p : Delivery → Bool = λ (h : Delivery). is_record c.args.agent c.args.event.now.time what (record_in h) in
    let first : find p c.args.self.now.outs.items ≡ Some c.in-Some.out.now =
    ap (λ (hs : List Delivery). find p hs) (sym c.deref.ensures.value) ∙ sym c.first_in.ensures ∙ ap (λ o. option_copied o) c.in-Some.is in
    record { right = first-recorded c.args.agent c.args.event.now.time what c.args.self.now.outs.items c.in-Some.out.now first; none = λ q. absurd (cc (q)) }

pub returns-in-None : goal.returns-in-None
returns-in-None c =
    let what = event_of c.args.event.now.name.now c.args.event.now.payload.now in
    let p : Delivery → Bool = λ (h : Delivery). is_record c.args.agent c.args.event.now.time what (record_in h) in
    let first : find p c.args.self.now.outs.items ≡ None =
    ap (λ (hs : List Delivery). find p hs) (sym c.deref.ensures.value) ∙ sym c.first_in.ensures ∙ ap (λ o. option_copied o) c.in-None.is in
    record { right = tt; none = λ q. none-recorded c.args.agent c.args.event.now.time what c.args.self.now.outs.items first }

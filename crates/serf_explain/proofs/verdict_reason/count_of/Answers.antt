use Rattle.serf_explain.proofs.Names.{Option, [], ap, cond, false, length, sym, ℕ, ◌==◌, ◌∙◌, ◌≡◌, eq-eqb, ne_eqb, option_map, borrowed_slot, slots_borrowed, BorrowedSlot, EventBody}
use Rattle.serf_explain.proofs.SlotLaws.{count-found, found}
use Rattle.serf_explain.proofs.verdict_reason.count_of.Goals as goal

pub returns-then-get-time : goal.returns-then-get-time
returns-then-get-time c =
    let t : ℕ = c.args.time in
    let s : BorrowedSlot EventBody = c.in-Some.slot in
    let at = eq-eqb s.time t (sym c.get-in-Some.ensures.value ∙ c.if-get-time.true) in
    let here : found t (option_map borrowed_slot c.get.result) ≡ length s.held.now = ap (λ (o : Option (BorrowedSlot EventBody)). found t (option_map borrowed_slot o)) c.in-Some.is ∙ ap (λ b. length (cond b s.held.now [])) at in
    sym here ∙ count-found (slots_borrowed c.args.slots) t c.len-2.result c.get.result c.len-2.ensures c.get.ensures

pub returns-else-get-time : goal.returns-else-get-time
returns-else-get-time c =
    let t : ℕ = c.args.time in
    let s : BorrowedSlot EventBody = c.in-Some.slot in
    let at : (s.time == t) ≡ false = ne_eqb s.time t (λ q. c.if-get-time.false (c.get-in-Some.ensures.value ∙ q)) in
    let here : found t (option_map borrowed_slot c.get.result) ≡ 0 = ap (λ (o : Option (BorrowedSlot EventBody)). found t (option_map borrowed_slot o)) c.in-Some.is ∙ ap (λ b. length (cond b s.held.now [])) at in
    sym here ∙ count-found (slots_borrowed c.args.slots) t c.len-2.result c.get.result c.len-2.ensures c.get.ensures

pub returns-in-None : goal.returns-in-None
returns-in-None c =
    let t : ℕ = c.args.time in
    sym (ap (λ (o : Option (BorrowedSlot EventBody)). found t (option_map borrowed_slot o)) c.in-None.is) ∙ count-found (slots_borrowed c.args.slots) t c.len-2.result c.get.result c.len-2.ensures c.get.ensures

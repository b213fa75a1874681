use Rattle.serf_agent_c.proofs.Names.{Some, ap, sym, ℕ, ◌∙◌, DeliveredQuery}
use Rattle.serf_agent_c.proofs.NumberedLaws.{at-none, at-place, taken-is}
use Rattle.serf_agent_c.proofs.waiting.Waiting.get.Goals as goal

pub returns-in_default : goal.returns-in_default
returns-in_default c =
    let n = at-none c.args.number c.args.self.now.queries.items c.as_slice.result.now c.place_of.result c.as_slice.ensures.value c.place_of.ensures c.in_default.is in
    sym n.none

pub returns-in-Some-get : goal.returns-in-Some-get
returns-in-Some-get c =
    let ws = c.args.self.now.queries.items in
    let t = at-place c.args.number ws c.as_slice.result.now c.place_of.result c.in-Some.index c.as_slice.ensures.value c.place_of.ensures c.in-Some.is in
    ap (λ (w : ℕ × DeliveredQuery). Some w.1) (taken-is c.args.number ws c.in-Some.index t c.in-Some-get.query.now (rw (c.deref.ensures.value) at (c.in-Some-get.ensures.lookup.1))) ∙ sym t.found

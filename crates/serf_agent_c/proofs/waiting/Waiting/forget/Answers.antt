use Rattle.serf_agent_c.proofs.Names.{List, None, Some, ap, sym, ℕ, ◌∙◌, ◌≡◌, DeliveredQuery}
use Rattle.serf_agent_c.proofs.NumberedLaws.{at-none, at-place, filled}
use Rattle.serf_agent_c.proofs.waiting.Waiting.forget.Goals as goal

pub returns-in-Some-clause-unknown : goal.returns-in-Some-clause-unknown
returns-in-Some-clause-unknown c = λ none.
    let t = at-place c.args.number c.args.self.now.queries.items c.as_slice.result.now c.place_of.result c.in-Some.index c.as_slice.ensures.value c.place_of.ensures c.in-Some.is in
    let no : Some t.query ≡ None = sym t.found ∙ none in
    cc

pub returns-in-Some-clause-left : goal.returns-in-Some-clause-left
returns-in-Some-clause-left c =
    let t = at-place c.args.number c.args.self.now.queries.items c.as_slice.result.now c.place_of.result c.in-Some.index c.as_slice.ensures.value c.place_of.ensures c.in-Some.is in
    ap (λ (l : List (ℕ × DeliveredQuery)). filled c.args.self.now.handed l) (c.remove.ensures.items ∙ t.left)

pub returns-in-None-clause-known : goal.returns-in-None-clause-known
returns-in-None-clause-known c = λ q some.
    let n = at-none c.args.number c.args.self.now.queries.items c.as_slice.result.now c.place_of.result c.as_slice.ensures.value c.place_of.ensures c.in-None.is in
    let no : None ≡ Some q = sym n.none ∙ some in
    cc

pub returns-in-None-clause-left : goal.returns-in-None-clause-left
returns-in-None-clause-left c =
    let n = at-none c.args.number c.args.self.now.queries.items c.as_slice.result.now c.place_of.result c.as_slice.ensures.value c.place_of.ensures c.in-None.is in
    sym (ap (λ (l : List (ℕ × DeliveredQuery)). filled c.args.self.now.handed l) n.left)

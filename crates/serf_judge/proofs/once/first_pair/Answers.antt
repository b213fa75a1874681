use Rattle.serf_judge.proofs.Names.{Some, ap, rules, sym, ◌∙◌, ◌≡◌, slice_get-get_or, get, slice_get}
use Rattle.serf_judge.proofs.PairLaws.{found, no-pair, not-found, nothing-recorded}
use Rattle.serf_judge.proofs.once.first_pair.Goals as goal

pub loop-place-init : goal.loop-place-init
loop-place-init g c = nothing-recorded g.K.PartialEq.eq c.args.keys.now (λ q. get g.K.PartialEq.eq c.new-places.result q) (λ q. search rules)

pub returns-in-Ok-Some : goal.returns-in-Ok-Some
returns-in-Ok-Some g c =
    let keys = c.args.keys.now in
    let key = c.index-keys-place.result in
    let at : slice_get keys c.loop-place.place ≡ Some key = slice_get-get_or keys c.loop-place.place key c.loop-place-test.true ∙ ap (λ k. Some k) (sym c.index-keys-place.is) in
    found g.K.PartialEq.eq g.met.K.Eq.laws keys c.loop-place.place c.in-Ok-Some.earlier key (λ q. get g.K.PartialEq.eq c.loop-place.places q) c.loop-place.invariant at
    (sym c.in-Ok-Some.ensures.old ∙ c.in-Ok-Some.field-0-is)

pub loop-place-preserved : goal.loop-place-preserved
loop-place-preserved g c =
    let keys = c.args.keys.now in
    let key = c.index-keys-place.result in
    let at : slice_get keys c.loop-place.place ≡ Some key = slice_get-get_or keys c.loop-place.place key c.loop-place-test.true ∙ ap (λ k. Some k) (sym c.index-keys-place.is) in
    not-found g.K.PartialEq.eq g.met.K.Eq.laws keys c.loop-place.place key (λ q. get g.K.PartialEq.eq c.loop-place.places q) (λ q. get g.K.PartialEq.eq c.insert.new.self q) c.loop-place.invariant at
    (sym c.in-Ok-None.ensures.old ∙ c.in-Ok-None.field-0-is) (λ q. c.in-Ok-None.ensures.updates.0 q)

pub returns : goal.returns
returns g c = no-pair g.K.PartialEq.eq c.args.keys.now c.loop-place.place (λ q. get g.K.PartialEq.eq c.loop-place.places q) c.loop-place.invariant c.loop-place-test.false

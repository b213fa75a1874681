use Rattle.serf_judge.proofs.Names.{List, ap, false, refl, subst, sym, take, take_all, ◌∙◌, contains, firsts_of, AreKept}
use Rattle.serf_judge.proofs.TallyLaws.{take-next}
use Rattle.serf_judge.proofs.again.firsts.Goals as goal

pub loop-key-preserved : goal.loop-key-preserved
loop-key-preserved g c =
    let next = take-next c.args.keys.now c.loop-key.key-index c.key-item.result c.loop-key-test.true c.key-item.is in
    let eq = g.K.PartialEq.eq in
    subst (λ (ks : List g.row.K.Denot). AreKept false eq (λ k. k) ks c.keep.new.found.items (λ q. contains eq c.keep.new.recorded q)) (sym next)
    (c.in_ok-keep.ensures (λ k. k) (take c.loop-key.key-index c.args.keys.now) refl c.loop-key.invariant)

pub returns : goal.returns
returns g c = c.loop-key.invariant.found_are ∙ ap (firsts_of g.K.PartialEq.eq) (take_all c.loop-key.key-index c.args.keys.now c.loop-key-test.false)

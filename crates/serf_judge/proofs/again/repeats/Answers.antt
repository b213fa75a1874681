use Rattle.serf_judge.proofs.Names.{[], ap, map, refl, rules, sym, take, take_all, ◌++◌, ◌∙◌, ◌∷◌, map-append, handed_seen, is_same, key_eq, repeats_among}
use Rattle.serf_judge.proofs.AgainLaws.{picked-map}
use Rattle.serf_judge.proofs.TallyLaws.{take-next}
use Rattle.serf_judge.proofs.again.repeats.Goals as goal

pub loop-entry-init : goal.loop-entry-init
loop-entry-init g c = ([], refl, record { found_are = search rules; recorded_are = λ q. search rules })

pub loop-entry-preserved : goal.loop-entry-preserved
loop-entry-preserved g c =
    let seen = g.E.Delivered.seen in
    let inv = c.loop-entry.invariant in
    let line = c.handed-line.result in
    let entry = c.entry-item.result in
    let before = take c.loop-entry.entry-index c.args.entries.now in (
      inv.0 ++ line ∷ [],
      map-append handed_seen inv.0 (line ∷ []) ∙ (λ k. inv.1 k ++ c.handed-line.ensures k ∷ []) ∙ sym (ap (map seen) (take-next c.args.entries.now c.loop-entry.entry-index entry c.loop-entry-test.true c.entry-item.is) ∙ map-append seen before (entry ∷ [])),
      c.in_ok-keep.ensures (λ h. h.key) inv.0 refl inv.2,
    )

pub returns : goal.returns
returns g c =
    let inv = c.loop-entry.invariant in
    ap (map handed_seen) inv.2.found_are ∙ picked-map (λ again. again) handed_seen (λ x y. key_eq x.key y.key) (λ x y. is_same x.1 y.1) (λ x y. refl) [] inv.0
    ∙ ap repeats_among (inv.1 ∙ ap (map g.E.Delivered.seen) (take_all c.loop-entry.entry-index c.args.entries.now c.loop-entry-test.false))

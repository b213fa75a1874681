use Rattle.serf_judge.proofs.Names.{ap, map, take_all, ◌∙◌, ◌≡◌, IfOk-weaker, key_eq, key_identity}
use Rattle.serf_judge.proofs.KeyLaws.{key-decides}
use Rattle.serf_judge.proofs.TwiceLaws.{twice-from-pairs}
use Rattle.serf_judge.proofs.once.first_twice.Goals as goal

pub returns : goal.returns
returns g c =
    let seen : map key_identity c.as_slice.result.now ≡ map (λ e. (g.E.Delivered.seen e).1) c.args.entries.now = ap (map key_identity) c.as_slice.ensures.value ∙ c.loop-entry.invariant ∙ ap (map (λ e. (g.E.Delivered.seen e).1)) (take_all c.loop-entry.entry-index c.args.entries.now c.loop-entry-test.false) in
    rw (← seen) (IfOk-weaker c.first_pair.result _ _ (λ pair h. twice-from-pairs key_eq key_identity c.as_slice.result.now pair key-decides h) c.first_pair.ensures)

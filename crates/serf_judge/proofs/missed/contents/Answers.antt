use Rattle.serf_judge.proofs.Names.{[], ap, map, not, refl, take_all, ◌∙◌, IfOk-weaker, firsts_of, content_key_eq, content_of, is_same_content, key_content}
use Rattle.serf_judge.proofs.AgainLaws.{picked-map}
use Rattle.serf_judge.proofs.missed.contents.Goals as goal

pub returns : goal.returns
returns c =
    let seen = ap (map key_content) c.as_slice.ensures.value ∙ c.loop-entry.invariant ∙ ap (map content_of) (take_all c.loop-entry.entry-index c.args.entries.now c.loop-entry-test.false) in
    IfOk-weaker c.firsts.result _ _ (λ found is. ap (map key_content) is ∙ picked-map not key_content content_key_eq is_same_content (λ x y. refl) [] c.as_slice.result.now ∙ ap (firsts_of is_same_content) seen) c.firsts.ensures

use Rattle.serf_judge.proofs.Names.{Bor, List, [], ap, not, refl, ℕ, ◌∙◌, IfOk-weaker, bytes_eq, is_same_text, texts_of}
use Rattle.serf_judge.proofs.AgainLaws.{picked-map}
use Rattle.serf_judge.proofs.nodes.each_once.Goals as goal

pub returns : goal.returns
returns c = IfOk-weaker c.firsts.result _ _ (λ once is. ap texts_of is ∙ picked-map not (λ (t : Bor (List ℕ)). t.now) is_same_text bytes_eq (λ x y. refl) [] c.args.nodes.now) c.firsts.ensures

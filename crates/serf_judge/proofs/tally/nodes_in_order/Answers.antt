use Rattle.serf_judge.proofs.Names.{List, ap, map, subst, sym, take_all, ℕ, ◌∙◌, ◌≡◌, IfOk, bytes_eq, firsts_of, Identity, handed_seen, texts_of, Delivery}
use Rattle.serf_judge.proofs.TallyLaws.{map-map}
use Rattle.serf_judge.proofs.tally.nodes_in_order.Goals as goal

pub returns : goal.returns
returns c =
    let lines : List Delivery = c.args.lines.now in
    let seen : texts_of c.as_slice.result.now ≡ map (λ (h : ℕ × Identity). h.1.node) (map handed_seen lines) =
    ap texts_of c.as_slice.ensures.value ∙ c.loop-line.invariant ∙ ap (map (λ (h : Delivery). h.key.node.now)) (take_all c.loop-line.line-index lines c.loop-line-test.false) ∙ sym (map-map (λ (h : ℕ × Identity). h.1.node) handed_seen lines)
    in
    subst (λ (nodes : List (List ℕ)). IfOk c.each_once.result (λ once. texts_of once.items ≡ firsts_of bytes_eq nodes)) seen c.each_once.ensures

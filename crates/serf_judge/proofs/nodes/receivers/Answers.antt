use Rattle.serf_judge.proofs.Names.{List, ap, subst, ℕ, ◌++◌, ◌∙◌, ◌≡◌, IfOk, bytes_eq, firsts_of, nodes_in, texts_of}
use Rattle.serf_judge.proofs.nodes.receivers.Goals as goal

pub returns : goal.returns
returns g c =
    let named : texts_of c.as_slice.result.now ≡ nodes_in g.E.Delivered.seen c.args.entries.now = ap texts_of c.as_slice.ensures.value ∙ c.in_ok-add_nodes.ensures ∙ ap (λ ns. texts_of ns ++ nodes_in g.E.Delivered.seen c.args.entries.now) c.new-nodes.ensures.items in
    subst (λ (nodes : List (List ℕ)). IfOk c.each_once.result (λ once. texts_of once.items ≡ firsts_of bytes_eq nodes)) named c.each_once.ensures

use Rattle.serf_judge.proofs.Names.{List, ap, subst, ℕ, ◌++◌, ◌∙◌, ◌≡◌, IfOk, bytes_eq, firsts_of, event_seen, query_seen, nodes_in, texts_of}
use Rattle.serf_judge.proofs.nodes.log_nodes.Goals as goal

pub returns : goal.returns
returns c =
    let log = c.args.log.now in
    let first : texts_of c.add_nodes.new.nodes.items ≡ nodes_in event_seen log.events.items =
    c.in_ok-add_nodes.ensures ∙ (λ k. texts_of (c.new-nodes.ensures.items k) ++ nodes_in event_seen (c.as_slice.ensures.value k))
    in
    let second : texts_of c.add_nodes-2.new.nodes.items ≡ nodes_in event_seen log.events.items ++ nodes_in query_seen log.queries.items =
    c.in_ok-add_nodes-2.ensures ∙ (λ k. first k ++ nodes_in query_seen (c.as_slice-2.ensures.value k))
    in
    let third : texts_of c.as_slice-4.result.now ≡ nodes_in event_seen log.events.items ++ nodes_in query_seen log.queries.items ++ nodes_in event_seen log.fired.items =
    ap texts_of c.as_slice-4.ensures.value ∙ c.in_ok-add_nodes-3.ensures ∙ (λ k. second k ++ nodes_in event_seen (c.as_slice-3.ensures.value k))
    in
    subst (λ (nodes : List (List ℕ)). IfOk c.each_once.result (λ once. texts_of once.items ≡ firsts_of bytes_eq nodes)) third c.each_once.ensures

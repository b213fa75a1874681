use Rattle.serf_judge_json.proofs.Names.{ap, length, length-map, sym, append_assoc, ◌++◌, ◌∙◌, ◌≡◌, flat_map, flat_map-map, on_ok_weaker, node_text, counts_text, read_text}
use Rattle.serf_judge_json.proofs.entries.write_read.Goals as goal

pub returns : goal.returns
returns c =
    let out = c.args.out.now.items in
    let log = c.args.log.now in
    let count = ap length c.as_slice.ensures.value ∙ sym (length-map c.in_ok-nodes.nodes.items (λ t. t.now)) ∙ ap length c.in_ok-nodes.ensures in
    let named = ap (flat_map (λ node. node_text node.now)) c.as_slice-2.ensures.value ∙ sym (flat_map-map node_text (λ t. t.now) c.in_ok-nodes.nodes.items) ∙ ap (flat_map node_text) c.in_ok-nodes.ensures in
    let all : c.write_nodes.new.out.items ≡ c.write_counts.new.out.items ++ flat_map (λ node. node_text node.now) c.as_slice-2.result.now → c.write_nodes.new.out.items ≡ out ++ read_text log =
    λ e. e ∙ (λ k. (c.in_ok-write_counts.ensures ∙ ap (λ n. out ++ counts_text log n) count) k ++ named k) ∙ append_assoc out _ _ in
    on_ok_weaker c.write_nodes.result all c.write_nodes.ensures

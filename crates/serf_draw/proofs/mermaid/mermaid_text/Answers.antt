use Rattle.serf_draw.proofs.Names.{List, ap, codes, rules, ◌++◌, ◌∙◌, ◌≡◌, flat_map, participant_line, row_line, mermaid_of, Lane}
use Rattle.serf_draw.proofs.mermaid.mermaid_text.Goals as goal

pub returns : goal.returns
unfolding mermaid_of
returns c =
    let picture = c.args.picture.now in
    let title : c.extend_from_slice.new.self.items ≡ codes "sequenceDiagram\n" = c.in_ok-extend_from_slice.ensures.items ∙ ap (λ t. t ++ codes "sequenceDiagram\n") c.new-out.ensures.items in
    let lanes : c.write_each.new.out.items ≡ c.extend_from_slice.new.self.items ++ flat_map participant_line picture.lanes.items =
    c.in_ok-write_each.ensures participant_line (search rules) ∙ ap (λ (ls : List Lane). c.extend_from_slice.new.self.items ++ flat_map participant_line ls) c.as_slice-lanes.ensures.value
    in
    let rows : c.write_each_with_lanes.new.out.items ≡ c.write_each.new.out.items ++ flat_map (row_line picture.lanes.items) picture.rows.items =
    c.in_ok-write_each_with_lanes.ensures row_line (search rules)
    ∙ (λ k. c.write_each.new.out.items ++ flat_map (row_line (c.as_slice-lanes.ensures.value k)) (c.as_slice-rows.ensures.value k))
    in
    rows ∙ ap (λ t. t ++ flat_map (row_line picture.lanes.items) picture.rows.items) (lanes ∙ ap (λ t. t ++ flat_map participant_line picture.lanes.items) title)

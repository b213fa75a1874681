use Rattle.serf_draw.proofs.Names.{ap, rules, ◌++◌, ◌∙◌, ◌≡◌, on_ok_weaker, flat_map, arrow_text, cross_text, front_text, row_text}
use Rattle.serf_draw.proofs.FilledLemmas.{three_more}
use Rattle.serf_draw.proofs.svg.write_foreground.Goals as goal

pub returns : goal.returns
unfolding front_text
returns c =
    let lanes = c.args.lanes.now in
    let out = c.args.out.now.items in
    let arrows = flat_map (arrow_text lanes) c.args.rows.now in
    let crosses = flat_map (cross_text lanes) c.args.lost.now in
    let first : c.write_each_with_lanes.new.out.items ≡ out ++ arrows = c.in_ok-write_each_with_lanes.ensures arrow_text (search rules) in
    let second : c.write_each_with_lanes-2.new.out.items ≡ c.write_each_with_lanes.new.out.items ++ crosses = c.in_ok-write_each_with_lanes-2.ensures cross_text (search rules) in
    let rows = flat_map (row_text lanes) c.args.rows.now in
    on_ok_weaker c.write_each.result
    (λ is. is ∙ ap (λ t. t ++ rows) (second ∙ ap (λ t. t ++ crosses) first) ∙ three_more out arrows crosses rows)
    (c.write_each.ensures (row_text lanes) (search rules))

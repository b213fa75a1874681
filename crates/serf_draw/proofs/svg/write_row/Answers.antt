use Rattle.serf_draw.proofs.Names.{ap, ◌++◌, ◌∙◌, on_ok_weaker}
use Rattle.serf_draw.proofs.FilledLemmas.{row_filled}
use Rattle.serf_draw.proofs.svg.write_row.Goals as goal

pub returns : goal.returns
returns c =
    on_ok_weaker c.write_template.result
    (λ is. is ∙ ap (λ t. c.args.out.now.items ++ t) (row_filled c.args.lanes c.args.row.now c.line.result c.tone_word.result c.mark.result c.as_slice.result c.line.ensures c.tone_word.ensures c.mark.ensures c.as_slice.ensures))
    c.write_template.ensures

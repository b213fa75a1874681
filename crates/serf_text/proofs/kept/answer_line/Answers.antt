use Rattle.serf_text.proofs.Names.{[], ap, append_assoc, subst, sym, ◌++◌, ◌∙◌, ◌∷◌}
use Rattle.serf_text.proofs.LineLaws.{number-more}
use Rattle.serf_text.proofs.kept.answer_line.Goals as goal

pub returns-in-Ok-clause-done : goal.returns-in-Ok-clause-done
returns-in-Ok-clause-done g c = λ lines first now h.
    let e = c.in-Ok.ensures.done lines (h.text ++ c.args.waiting.now.items) h.tells in record {
      numbered = number-more lines c.args.line.now c.args.number.now c.saturating_add.result h.numbered c.saturating_add.ensures;
      text = h.text;
      appended = h.appended;
      tells = subst (g.J.LineReporter.told c.read_one.new.job (lines ++ c.args.line.now ∷ [])) (append_assoc h.text c.args.waiting.now.items e.0 ∙ ap (λ w. h.text ++ w) (sym e.1)) e.2;
    }

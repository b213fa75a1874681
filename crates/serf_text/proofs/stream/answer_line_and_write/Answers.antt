use Rattle.serf_text.proofs.Names.{List, [], append_assoc, inl, inr, subst, sym, ℕ, ◌++◌, ◌∙◌, ◌∷◌, ◌≡◌, IfErr-weaker, on_ok_weaker, AppendsFront, WriteError}
use Rattle.serf_text.proofs.StreamLaws.{both-err, reached-written, stopped-at-write}
use Rattle.serf_text.proofs.stream.answer_line_and_write.Goals as goal

pub returns-in-Err-clause-stopped : goal.returns-in-Err-clause-stopped
returns-in-Err-clause-stopped g c = λ all lines more first splits h.
    inl (record {
      lines = lines;
      line = c.args.kept.now.held.items ++ c.args.line.now;
      more = more;
      splits = splits;
      job = c.args.job.now;
      text = h.text;
      appended = h.appended;
      tells = subst (λ (w : List ℕ). g.J.LineReporter.told c.args.job.now lines (h.text ++ w)) (sym c.in-Err.ensures.same) h.tells;
      error_is = c.in-Err.ensures.stopped lines first (g.W.Write.contents c.args.writer.now) h;
    })

pub returns-clause-done : goal.returns-clause-done
returns-clause-done g c = λ lines first h.
    let old = g.W.Write.contents c.args.writer.now in
    let new = g.W.Write.contents c.write_waiting.new.writer in
    let kept = c.end_line.new.kept in
    on_ok_weaker c.write_waiting.result
    (λ w. reached-written g.J.LineReporter.told c.end_line.new.job kept.number kept.waiting.items c.write_waiting.new.waiting.items (lines ++ (c.args.kept.now.held.items ++ c.args.line.now) ∷ []) first old new (c.in-Ok.ensures.done lines first old h) w c.write_waiting.ensures.empty)
    c.write_waiting.ensures.done

pub returns-clause-stopped : goal.returns-clause-stopped
returns-clause-stopped g c = λ all lines more first splits h.
    let old = g.W.Write.contents c.args.writer.now in
    let new = g.W.Write.contents c.write_waiting.new.writer in
    let kept = c.end_line.new.kept in
    let line : List ℕ = c.args.kept.now.held.items ++ c.args.line.now in
    let done : all ≡ (lines ++ line ∷ []) ++ more = splits ∙ sym (append_assoc lines (line ∷ []) more) in
    IfErr-weaker c.write_waiting.result _ _
    (λ error w. inr (w.1, c.write_waiting.ensures.empty, stopped-at-write g.J.LineReporter.told g.J.LineReporter.refuses c.end_line.new.job kept.number kept.waiting.items all (lines ++ line ∷ []) more first old new done (c.in-Ok.ensures.done lines first old h) w.0))
    (both-err (AppendsFront old new kept.waiting.items) (λ error. error ≡ WriteError) c.write_waiting.result c.write_waiting.ensures.front c.write_waiting.ensures.error)

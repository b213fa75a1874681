use Rattle.serf_text.proofs.Names.{[], ap, append-nil, sym, ◌++◌, ◌∙◌, ◌∷◌, ◌≡◌, IfErr-weaker, on_ok_weaker, lines_of, IsLineError, WaitsFor}
use Rattle.serf_text.proofs.StreamLaws.{both-err, done-at-end, either, stopped-at-line, stopped-at-write, waits-at-end, waits-at-write}
use Rattle.serf_text.proofs.stream.finish.Goals as goal

pub returns-in-Err-clause-stopped : goal.returns-in-Err-clause-stopped
returns-in-Err-clause-stopped g c = λ before first h.
    let old = g.W.Write.contents c.args.writer.now in
    let new = g.W.Write.contents c.write_waiting.new.writer in
    let held = c.args.kept.now.held.items in
    let kept = c.end_line-ended.new.kept in
    let job = c.end_line-ended.new.job in
    let splits : lines_of before ≡ (h.lines ++ (held ++ []) ∷ []) ++ [] = h.splits ∙ ap (λ l. h.lines ++ l ∷ []) (sym (append-nil held)) ∙ sym (append-nil (h.lines ++ (held ++ []) ∷ [])) in
    rw c.in-Err.ensures.error
    (either (λ error. WaitsFor g.J.LineReporter.told g.J.LineReporter.refuses error (lines_of before) kept.waiting.items first old) c.end_line-ended.result
    (c.end_line-ended.ensures.done h.lines first old h.reached)
    (IfErr-weaker c.end_line-ended.result _ _
    (λ error w. waits-at-end g.J.LineReporter.told g.J.LineReporter.refuses c.args.job.now error c.args.kept.now.number c.args.kept.now.waiting.items kept.waiting.items (lines_of before) h.lines held first old h.splits h.reached w.0 w.1)
    (both-err (kept.waiting.items ≡ c.args.kept.now.waiting.items) (λ error. IsLineError g.J.LineReporter.refuses error h.lines (held ++ [])) c.end_line-ended.result c.end_line-ended.ensures.same (c.end_line-ended.ensures.stopped h.lines first old h.reached)))
    (λ r. stopped-at-write g.J.LineReporter.told g.J.LineReporter.refuses job kept.number kept.waiting.items (lines_of before) (h.lines ++ (held ++ []) ∷ []) [] first old new splits r c.in-Err.ensures.front)
    (λ error w. waits-at-write g.J.LineReporter.told g.J.LineReporter.refuses error (lines_of before) kept.waiting.items first old new w c.in-Err.ensures.front))

pub returns-in-Ok-clause-done : goal.returns-in-Ok-clause-done
returns-in-Ok-clause-done g c = λ before first h.
    let old = g.W.Write.contents c.args.writer.now in
    let new = g.W.Write.contents c.write_waiting.new.writer in
    on_ok_weaker c.end_line-ended.result
    (λ r. done-at-end g.J.LineReporter.told c.end_line-ended.new.job c.end_line-ended.new.kept.number c.end_line-ended.new.kept.waiting.items (lines_of before) h.lines c.args.kept.now.held.items first old new h.splits r c.in-Ok.ensures.done)
    (c.end_line-ended.ensures.done h.lines first old h.reached)

pub returns-in-Ok-clause-stopped : goal.returns-in-Ok-clause-stopped
returns-in-Ok-clause-stopped g c = λ before first h.
    let old = g.W.Write.contents c.args.writer.now in
    let new = g.W.Write.contents c.write_waiting.new.writer in
    let kept = c.end_line-ended.new.kept in
    IfErr-weaker c.end_line-ended.result _ _
    (λ error w. stopped-at-line g.J.LineReporter.told g.J.LineReporter.refuses error (lines_of before) kept.waiting.items first old new
    (waits-at-end g.J.LineReporter.told g.J.LineReporter.refuses c.args.job.now error c.args.kept.now.number c.args.kept.now.waiting.items kept.waiting.items (lines_of before) h.lines c.args.kept.now.held.items first old h.splits h.reached w.0 w.1) c.in-Ok.ensures.done)
    (both-err (kept.waiting.items ≡ c.args.kept.now.waiting.items) (λ error. IsLineError g.J.LineReporter.refuses error h.lines (c.args.kept.now.held.items ++ [])) c.end_line-ended.result c.end_line-ended.ensures.same (c.end_line-ended.ensures.stopped h.lines first old h.reached))

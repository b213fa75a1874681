use Rattle.serf_text.proofs.Names.{[], ◌++◌, ◌∷◌, IfErr-weaker, on_ok_weaker, lines_of, IsLeft}
use Rattle.serf_text.proofs.StreamLaws.{either, left-at-line, left-at-write, reached-written, stopped-at-write}
use Rattle.serf_text.proofs.stream.step.Goals as goal

pub returns-in-Err-clause-stopped : goal.returns-in-Err-clause-stopped
returns-in-Err-clause-stopped g c = λ before first h.
    let bytes = before ++ c.args.bytes.now in
    let now = g.W.Write.contents c.answer_lines_in-taken.new.writer in
    let new = g.W.Write.contents c.write_waiting.new.writer in
    let kept = c.answer_lines_in-taken.new.kept in
    let job = c.answer_lines_in-taken.new.job in
    rw c.in-Err.ensures.error
    (either (λ error. IsLeft g.J.LineReporter.told g.J.LineReporter.refuses error (lines_of bytes) kept.waiting.items first now) c.answer_lines_in-taken.result
    (c.answer_lines_in-taken.ensures.done before first h)
    (c.answer_lines_in-taken.ensures.stopped before first h)
    (λ r. stopped-at-write g.J.LineReporter.told g.J.LineReporter.refuses job kept.number kept.waiting.items (lines_of bytes) r.lines (kept.held.items ∷ []) first now new r.splits r.reached c.in-Err.ensures.front)
    (λ error w. left-at-write g.J.LineReporter.told g.J.LineReporter.refuses error (lines_of bytes) kept.waiting.items first now new w c.in-Err.ensures.front))

pub returns-in-Ok-clause-done : goal.returns-in-Ok-clause-done
returns-in-Ok-clause-done g c = λ before first h.
    let now = g.W.Write.contents c.answer_lines_in-taken.new.writer in
    let new = g.W.Write.contents c.write_waiting.new.writer in
    let kept = c.answer_lines_in-taken.new.kept in
    on_ok_weaker c.answer_lines_in-taken.result
    (λ r. record {
      lines = r.lines;
      splits = r.splits;
      reached = reached-written g.J.LineReporter.told c.answer_lines_in-taken.new.job kept.number kept.waiting.items c.write_waiting.new.waiting.items r.lines first now new r.reached c.in-Ok.ensures.done c.in-Ok.ensures.empty;
    })
    (c.answer_lines_in-taken.ensures.done before first h)

pub returns-in-Ok-clause-stopped : goal.returns-in-Ok-clause-stopped
returns-in-Ok-clause-stopped g c = λ before first h.
    let now = g.W.Write.contents c.answer_lines_in-taken.new.writer in
    let new = g.W.Write.contents c.write_waiting.new.writer in
    IfErr-weaker c.answer_lines_in-taken.result _ _
    (λ error w. left-at-line g.J.LineReporter.told g.J.LineReporter.refuses error (lines_of (before ++ c.args.bytes.now)) c.answer_lines_in-taken.new.kept.waiting.items first now new w c.in-Ok.ensures.done)
    (c.answer_lines_in-taken.ensures.stopped before first h)

use Rattle.serf_text.proofs.Names.{refl, IfErr-weaker, on_ok_weaker, lines_of}
use Rattle.serf_text.proofs.StreamLaws.{answered-front, answered-whole}
use Rattle.serf_text.proofs.stream.answer_lines.Goals as goal

pub returns-clause-done : goal.returns-clause-done
returns-clause-done g c = λ start.
    on_ok_weaker c.report_lines.result
    (λ is. (is.0, is.1, is.2, answered-whole g.J.LineJob.follows g.J.LineJob.answer c.report_lines.new.job (lines_of is.0) _ _ is.3))
    (c.report_lines.ensures.done (start, refl))

pub returns-clause-stopped : goal.returns-clause-stopped
returns-clause-stopped g c = λ start.
    IfErr-weaker c.report_lines.result _ _
    (λ error is. (is.0, is.1, answered-front g.J.LineJob.follows g.J.LineJob.answer error (lines_of is.0) _ _ is.2))
    (c.report_lines.ensures.stopped (start, refl))

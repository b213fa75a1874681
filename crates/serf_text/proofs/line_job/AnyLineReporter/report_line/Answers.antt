use Rattle.serf_text.proofs.Names.{[], on_ok_weaker}
use Rattle.serf_text.proofs.LineLaws.{text-push}
use Rattle.serf_text.proofs.line_job.AnyLineReporter.report_line.Goals as goal

pub returns-clause-done : goal.returns-clause-done
returns-clause-done g c = λ lines before told empty.
    on_ok_weaker c.read_line.result
    (λ said. (said.1, text-push g.J.LineJob.answer [] lines c.args.line.now before c.read_line.new.text.items told.1 said.0))
    (c.read_line.ensures.done lines told.0 empty)

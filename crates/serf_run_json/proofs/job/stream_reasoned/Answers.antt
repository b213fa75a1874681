use Rattle.serf_run_json.proofs.Names.{true, lines_of}
use Rattle.serf_run_json.specs.declared.streaming.ReasonedObjects.{ReasonedObjects}
use Rattle.serf_run_json.proofs.StreamLaws.{halted, whole}
use Rattle.serf_run_json.proofs.job.stream_reasoned.Goals as goal

pub returns-in-Ok-clause-done : goal.returns-in-Ok-clause-done
returns-in-Ok-clause-done g c =
    let d = c.in-Ok.ensures.done (tt, tt, c.new-run.ensures tt c.new.ensures) in
    let s = d.3.tells in
    (d.0, d.3.text, d.1, d.2, whole true (λ (t : ReasonedObjects). t.objects) c.report_lines.new.job d.0 d.3.text c.turns.result s (c.turns.ensures s.0 (lines_of d.0) d.3.text s.2), d.3.written)

pub returns-clause-stopped : goal.returns-clause-stopped
returns-clause-stopped g c =
    let s = c.in-Err.ensures.stopped (tt, tt, c.new-run.ensures tt c.new.ensures) in
    (s.0, s.1, halted true (λ (t : ReasonedObjects). t.objects) c.in-Err.error s.0 (g.W.Write.contents c.args.writer.now) (g.W.Write.contents c.report_lines.new.writer) s.2)

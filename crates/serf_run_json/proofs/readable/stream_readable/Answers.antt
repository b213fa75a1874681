use Rattle.std.proofs.Common.{refl}
use Rattle.std.proofs.lemmas.Result.{IfErr-weaker, on_ok_weaker}
use Rattle.serf_run_json.proofs.ReadableStreams.{halted, whole}
use Rattle.serf_run_json.proofs.readable.stream_readable.Goals as goal

pub returns-clause-done : goal.returns-clause-done
returns-clause-done g c =
    on_ok_weaker c.report_lines.result
    (λ d. (d.0, d.3.text, d.1, d.2, whole d.3.tells.0 c.report_lines.new.job d.0 d.3.text d.3.tells.2, d.3.written))
    (c.report_lines.ensures.done (tt, tt, c.new.ensures tt (λ configs. refl)))

pub returns-clause-stopped : goal.returns-clause-stopped
returns-clause-stopped g c =
    IfErr-weaker c.report_lines.result _ _
    (λ error s. (s.0, s.1, halted (λ options. Unit {0}) error s.0 (g.W.Write.contents c.args.writer.now) (g.W.Write.contents c.report_lines.new.writer) s.2))
    (c.report_lines.ensures.stopped (tt, tt, c.new.ensures tt (λ configs. refl)))

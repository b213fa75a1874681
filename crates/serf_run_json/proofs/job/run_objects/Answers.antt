use Rattle.std.proofs.lemmas.Option.{IfSome_then}
use Rattle.std.proofs.lemmas.Result.{IfOk-weaker}
use Rattle.serf_run_json.proofs.StreamLaws.{reports-input}
use Rattle.serf_run_json.proofs.job.run_objects.Goals as goal

pub returns-clause-done : goal.returns-clause-done
returns-clause-done g c =
    let range = c.args.range.now in
    let explains = c.args.explains in
    let input = g.R.Read.remaining c.args.reader.now in
    IfOk-weaker c.report_input.result _ _ (λ count known. IfSome_then input known (λ bytes made. (made.0, reports-input range explains bytes made.0 count made.1, made.2, made.3))) (c.report_input.ensures.done (range, explains) c.new.ensures)

pub returns-clause-front : goal.returns-clause-front
returns-clause-front g c failed =
    let range = c.args.range.now in
    let explains = c.args.explains in
    let input = g.R.Read.remaining c.args.reader.now in
    IfSome_then input (c.report_input.ensures.front (range, explains) c.new.ensures failed) (λ bytes made. (made.0, made.1, reports-input range explains bytes made.0 made.1 made.2, made.3, made.4))

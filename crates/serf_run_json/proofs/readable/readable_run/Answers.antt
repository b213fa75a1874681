use Rattle.std.proofs.Common.{refl}
use Rattle.std.proofs.lemmas.Option.{IfSome_then}
use Rattle.serf_schedule.specs.declared.parse.ReplayError.TheVariants.{BadLine, WriteError}
use Rattle.serf_run_json.proofs.ReadableStreams.{bad-input, reported, same-error}
use Rattle.serf_run_json.proofs.readable.readable_run.Goals as goal

pub returns-in-Ok-clause-done : goal.returns-in-Ok-clause-done
returns-in-Ok-clause-done g c =
    let input = g.R.Read.remaining c.args.reader.now in
    IfSome_then input (c.in-Ok.ensures.done tt (λ configs. refl)) (λ bytes made. (made.0, reported bytes made.0 _ made.1, made.2, made.3))

pub returns-in-Err-clause-bad_line : goal.returns-in-Err-clause-bad_line
returns-in-Err-clause-bad_line g c line cause failed =
    let input = g.R.Read.remaining c.args.reader.now in
    IfSome_then input (c.in-Err.ensures.bad_line line cause (same-error c.in-Err.error (BadLine line cause) failed)) (λ bytes made. (made.0, bad-input bytes _ made.1))

pub returns-in-Err-clause-front : goal.returns-in-Err-clause-front
returns-in-Err-clause-front g c failed =
    let input = g.R.Read.remaining c.args.reader.now in
    IfSome_then input (c.in-Err.ensures.front tt (λ configs. refl) (same-error c.in-Err.error WriteError failed)) (λ bytes made. (made.0, reported bytes made.0 made.1 made.2, made.3, made.4))

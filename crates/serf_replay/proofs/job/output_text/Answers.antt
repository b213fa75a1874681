use Rattle.serf_replay.proofs.Names.{refl}
use Rattle.serf_replay.proofs.TextLaws.{whole}
use Rattle.serf_replay.proofs.job.output_text.Goals as goal

pub returns-in-Ok-clause-text : goal.returns-in-Ok-clause-text
returns-in-Ok-clause-text g c =
    let told = c.in-Ok.ensures.done (tt, tt, c.new-run.ensures tt (λ configs. refl)) in
    (whole told.0 c.traced_schedules.ensures.traces c.report_text.new.job c.args.input.now c.in-Ok.text.items told.2).0

pub returns-in-Ok-clause-run : goal.returns-in-Ok-clause-run
returns-in-Ok-clause-run g c =
    let told = c.in-Ok.ensures.done (tt, tt, c.new-run.ensures tt (λ configs. refl)) in
    (whole told.0 c.traced_schedules.ensures.traces c.report_text.new.job c.args.input.now c.in-Ok.text.items told.2).1

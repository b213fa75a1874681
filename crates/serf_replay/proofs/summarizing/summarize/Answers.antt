use Rattle.serf_replay.proofs.Names.{ap, length, refl}
use Rattle.serf_replay.proofs.summarizing.summarize.Goals as goal

pub returns-clause-run : goal.returns-clause-run
returns-clause-run g c =
    let s = (c.in_ok-report_schedule.ensures tt (c.new-reporter.ensures, refl)).0 in
    record { counted = s.counted; answers = s.answers; hand_outs = s.hand_outs }

pub returns-clause-size : goal.returns-clause-size
returns-clause-size g c = ap length c.as_slice.ensures.agents

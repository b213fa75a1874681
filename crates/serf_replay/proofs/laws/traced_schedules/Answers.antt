use Rattle.serf_replay.proofs.TextLaws.{traces-run}
use Rattle.serf_replay.proofs.laws.traced_schedules.Goals as goal

pub returns : goal.returns
returns c = record { traces = traces-run c.sized_schedules.ensures c.told_schedules.ensures c.turns_shown.ensures c.run_promises.ensures.promises }

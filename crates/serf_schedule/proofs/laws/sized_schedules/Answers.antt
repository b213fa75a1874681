use Rattle.serf_schedule.proofs.SizedLaws.{sized-schedule}
use Rattle.serf_schedule.proofs.laws.sized_schedules.Goals as goal

pub returns : goal.returns
returns c = sized-schedule

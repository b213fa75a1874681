use Rattle.serf_schedule.proofs.ToldLaws.{told-schedule}
use Rattle.serf_schedule.proofs.laws.told_schedules.Goals as goal

pub returns : goal.returns
returns c = told-schedule c.told_packets.ensures

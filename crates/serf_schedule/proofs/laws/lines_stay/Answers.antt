use Rattle.serf_schedule.proofs.ShownLaws.{actions-push, line-stays, sends}
use Rattle.serf_schedule.proofs.laws.lines_stay.Goals as goal

pub returns-clause-sent : goal.returns-clause-sent
returns-clause-sent c = λ k action. (sends k action).sent

pub returns-clause-lines : goal.returns-clause-lines
returns-clause-lines c = line-stays

pub returns-clause-follow : goal.returns-clause-follow
returns-clause-follow c = actions-push

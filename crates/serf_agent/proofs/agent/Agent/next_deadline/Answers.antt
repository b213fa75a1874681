use Rattle.serf_agent.proofs.Deadlines.{due-lowest}
use Rattle.serf_agent.proofs.agent.Agent.next_deadline.Goals as goal

pub returns : goal.returns
returns g c = rw (← c.self.view_is, c.min_deadline.ensures, c.values.ensures) (λ now. due-lowest now c.self.inside.fired_queries)

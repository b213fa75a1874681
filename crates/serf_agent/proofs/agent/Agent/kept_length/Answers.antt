use Rattle.serf_agent.proofs.Names.{[], ◌∙◌}
use Rattle.serf_agent.proofs.agent.Agent.kept_length.Goals as goal

pub returns : goal.returns
returns g c = c.total.ensures ∙ c.in-Ok.ensures [] c.new-count.ensures

use Rattle.serf_agent_c.proofs.HostLaws as hosts
use Rattle.serf_agent_c.proofs.laws.host_steps.Goals as goal

pub returns-clause-steps : goal.returns-clause-steps
returns-clause-steps c = hosts.host_steps

pub returns-clause-codes : goal.returns-clause-codes
returns-clause-codes c = hosts.codes_differ

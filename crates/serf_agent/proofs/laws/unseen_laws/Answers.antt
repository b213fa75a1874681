use Rattle.serf_agent.proofs.UnseenLaws as unseen
use Rattle.serf_agent.proofs.laws.unseen_laws.Goals as goal

pub returns : goal.returns
returns c = unseen.unseen_laws

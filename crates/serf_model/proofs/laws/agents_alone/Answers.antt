use Rattle.serf_model.proofs.AloneLaws.{alone-run}
use Rattle.serf_model.proofs.laws.agents_alone.Goals as goal

pub returns : goal.returns
returns c = alone-run

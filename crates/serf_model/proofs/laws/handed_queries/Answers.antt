use Rattle.serf_model.proofs.HistoryGrowth.{delivers-handed, merges-handed}
use Rattle.serf_model.proofs.laws.handed_queries.Goals as goal

pub returns-clause-delivers : goal.returns-clause-delivers
returns-clause-delivers c = delivers-handed

pub returns-clause-merges : goal.returns-clause-merges
returns-clause-merges c = merges-handed

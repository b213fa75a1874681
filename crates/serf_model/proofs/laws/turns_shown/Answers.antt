use Rattle.serf_model.proofs.PromiseLaws.{shown}
use Rattle.serf_model.proofs.laws.turns_shown.Goals as goal

pub returns : goal.returns
returns c = (shown c.laws_below.ensures)

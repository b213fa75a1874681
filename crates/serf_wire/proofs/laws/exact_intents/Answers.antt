use Rattle.serf_wire.proofs.Intents.{reads_intents}
use Rattle.serf_wire.proofs.laws.exact_intents.Goals as goal

pub returns : goal.returns
returns c = reads_intents c.laws_below.ensures

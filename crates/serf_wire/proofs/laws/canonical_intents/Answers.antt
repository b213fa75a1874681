use Rattle.serf_wire.proofs.CanonicalIntents.{canonical_intents}
use Rattle.serf_wire.proofs.laws.canonical_intents.Goals as goal

pub returns : goal.returns
returns c = canonical_intents c.laws_below.ensures

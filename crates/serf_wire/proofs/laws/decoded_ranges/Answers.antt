use Rattle.serf_wire.proofs.SpelledRanges.{decoded_ranged}
use Rattle.serf_wire.proofs.laws.decoded_ranges.Goals as goal

pub returns : goal.returns
returns c = decoded_ranged c.laws_below.ensures

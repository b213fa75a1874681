use Rattle.serf_wire.proofs.SpelledBytes.{decoded_bytes}
use Rattle.serf_wire.proofs.laws.decoded_texts.Goals as goal

pub returns : goal.returns
returns c = decoded_bytes c.laws_below.ensures

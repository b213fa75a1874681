use Rattle.serf_model.proofs.ToldPackets.{told-packet}
use Rattle.serf_model.proofs.laws.told_packets.Goals as goal

pub returns : goal.returns
returns c = told-packet c.decoded_texts.ensures

-- Texts are read back, and no text is read back as two messages.
use Rattle.serf_packets.proofs.TextsTaken.{texts_tell_apart}
use Rattle.serf_packets.proofs.laws.know_texts_tell_apart.Goals as goal

pub returns : goal.returns
returns c = texts_tell_apart c.decoded_ranges.ensures

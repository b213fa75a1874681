use Rattle.serf_wire.proofs.CanonicalPackets.{canonical_spells}
use Rattle.serf_wire.proofs.laws.canonical_packets.Goals as goal

pub returns : goal.returns
returns c = canonical_spells c.laws_below.ensures

-- The law follows from what the crates below state about packets.
use Rattle.serf_packets.proofs.TextsTaken.{texts_taken}
use Rattle.serf_packets.proofs.laws.know_texts_taken.Goals as goal

pub returns : goal.returns
returns c = texts_taken c.decoded_ranges.ensures c.exact_decoding.ensures.spells c.canonical_packets.ensures

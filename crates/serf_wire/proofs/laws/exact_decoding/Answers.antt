use Rattle.serf_wire.proofs.Packets.{spelled_decoded, decoded_spelled, malformed_decoded, decoded_malformed, one_message}
use Rattle.serf_wire.proofs.laws.exact_decoding.Goals as goal

pub returns : goal.returns
returns c = record {
  spells = λ packet m. (decoded_spelled c.laws_below.ensures packet m, spelled_decoded c.laws_below.ensures packet m);
  error = λ packet f. (decoded_malformed c.laws_below.ensures packet f, malformed_decoded c.laws_below.ensures packet f);
  one = one_message c.laws_below.ensures;
}

use Rattle.serf_pack.proofs.Inputs.{packs_whole, whole_packs, malformed_whole, whole_malformed}
use Rattle.serf_pack.proofs.ReadIsSpelled.{head_back}
use Rattle.serf_pack.proofs.SpelledIsRead.{head_begins}
use Rattle.serf_pack.proofs.laws.exact_reading.Goals as goal

pub returns : goal.returns
returns c = record {
  value = λ bytes v. (whole_packs bytes v, packs_whole bytes v);
  error = λ bytes f. (whole_malformed bytes f, malformed_whole bytes f);
  head = λ total bytes rest h. (head_back total bytes (h, rest), head_begins total bytes rest h);
}

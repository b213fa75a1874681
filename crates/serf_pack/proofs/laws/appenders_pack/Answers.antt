use Rattle.serf_pack.proofs.Appending.{nil_packs, flag_packs, uint_packs, int_packs, raw_packs, array_packs, map_packs}
use Rattle.serf_pack.proofs.laws.appenders_pack.Goals as goal

pub returns : goal.returns
returns c = record { nil = nil_packs; flag = flag_packs; uint = uint_packs; int = int_packs; raw = raw_packs; array = array_packs; map = map_packs }

use Rattle.serf_wire.proofs.Names.{[], refl, text}
use Rattle.serf_wire.proofs.FastReading.{nil_front, text_of_raw}
use Rattle.serf_wire.proofs.compact.read_text.Goals as goal

pub returns-in-Some : goal.returns-in-Some
returns-in-Some c = text_of_raw c.in-Some.found.0.now c.args.bytes.now c.in-Some.found.1.now c.in-Some.ensures

pub returns-in_ok-rest-in-None : goal.returns-in_ok-rest-in-None
returns-in_ok-rest-in-None c = nil_front c.laws_below.ensures text [] c.args.bytes.now c.in_ok-rest-in-None.rest.now (λ p. refl) c.in_ok-rest-in-None.ensures

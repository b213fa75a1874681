use Rattle.serf_world.proofs.Names.{arith}
use Rattle.serf_world.proofs.known_sizes.know_texts.Goals as goal

pub returns : goal.returns
returns c = record { name = λ i. let fits = c.type_inv.name i in omega arith; payload = λ i. let fits = c.type_inv.payload i in omega arith }

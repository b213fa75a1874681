use Rattle.serf_world.proofs.Names.{arith}
use Rattle.serf_world.proofs.known_sizes.know_packet.Goals as goal

pub returns : goal.returns
returns c = c.told_packets.ensures c.args.packet.now (λ i. let fits = c.type_inv.packet i in omega arith)

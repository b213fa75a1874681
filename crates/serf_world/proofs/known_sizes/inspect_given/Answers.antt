use Rattle.serf_world.proofs.Names.{List, Option, subst, ℕ, All, IsWritable, events_given}
use Rattle.serf_world.proofs.known_sizes.inspect_given.Goals as goal

pub returns-in-Some : goal.returns-in-Some
returns-in-Some c = subst (λ (o : Option (List ℕ)). All (λ e. IsWritable e.key) (events_given o)) c.in-Some.ensures c.know_packet.ensures

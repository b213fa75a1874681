use Rattle.serf_world.proofs.Names.{List, subst, sym, ℕ, All, IsWritable, BringsTold, events_in_packet}
use Rattle.serf_world.proofs.known_sizes.inspect_action.Goals as goal

pub returns-in-Inject : goal.returns-in-Inject
returns-in-Inject c = subst BringsTold (sym c.in-Inject.is) (subst (λ (p : List ℕ). All (λ e. IsWritable e.key) (events_in_packet p)) c.as_slice.ensures c.know_packet.ensures)

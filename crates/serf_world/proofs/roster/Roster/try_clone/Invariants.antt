use Rattle.serf_world.proofs.Names.{take, ◌≡◌}
use Rattle.serf_world.proofs.roster.Roster.try_clone.Given as goal

abbrev pub invariant-loop-config : goal.invariant-loop-config
invariant-loop-config l = record {
  so_far : l.configs.items ≡ take l.config-index l.config-items;
  all : l.config-items ≡ l.self;
}

use Rattle.serf_world.proofs.Names.{map, true, ◌++◌, ◌≡◌, AllByRecursion, into_iter_items, is_sound, first_node, node_of}
use Rattle.serf_world.proofs.world.open_all.Given as goal

-- the agents so far, and those whose settings are left, which are within their bounds
abbrev pub invariant-loop-config : goal.invariant-loop-config
invariant-loop-config l = record {
  nodes : l.nodes.items ++ map (λ c. node_of (first_node c)) (into_iter_items l.config-iterator) ≡ map (λ c. node_of (first_node c)) l.fn.configs.items;
  sound : AllByRecursion (λ c. is_sound c ≡ true) (into_iter_items l.config-iterator);
}

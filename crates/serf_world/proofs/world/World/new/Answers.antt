use Rattle.serf_world.proofs.Names.{List, ap, map, subst, sym, true, ◌∙◌, ◌≡◌, AllByRecursion, is_sound, Config, first_node, node_of}
use Rattle.serf_world.proofs.DoneLaws.{done-nothing}
use Rattle.serf_world.proofs.TurnLaws.{map-map}
use Rattle.serf_world.proofs.RosterLaws.{all-sound}
use Rattle.serf_world.proofs.world.World.new.Goals as goal

pub returns-clause-start : goal.returns-clause-start
returns-clause-start c = record {
  nodes = map-map node_of first_node c.args.roster ∙ ap (λ (l : List Config). map (λ c. node_of (first_node c)) l) (sym c.into_vec.ensures.agents) ∙ sym c.in_ok-open_all.ensures;
  sent = sym c.new.ensures.items;
}

pub open_all-requires : goal.open_all-requires
open_all-requires c = subst (λ (l : List Config). AllByRecursion (λ c. is_sound c ≡ true) l) (sym c.into_vec.ensures.agents) (all-sound c.args.roster c.into_vec.ensures.configs)

pub returns-clause-done : goal.returns-clause-done
returns-clause-done c =
    let ok = c.into_vec.ensures.configs in
    done-nothing c.turns_shown.ensures c.run_promises.ensures.promises c.args.roster _ ok (returns-clause-start c) (c.representable_agents.ensures.start c.args.roster ok)

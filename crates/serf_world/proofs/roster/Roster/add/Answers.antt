use Rattle.serf_world.proofs.Names.{[], arith, false, sym, true, ◌++◌, ◌∷◌, ◌≡◌, common_steps, is_sound, has_name}
use Rattle.serf_world.proofs.RosterLaws.{one_more}
use Rattle.serf_world.proofs.roster.Roster.add.Goals as goal

pub invariant_of-self-in-Ok-false : goal.invariant_of-self-in-Ok-false
invariant_of-self-in-Ok-false c =
    let same : c.reserve.new.self.items ≡ c.self.inside.configs.items = grind (arith, common_steps) in
    let names = c.in-Ok-false.ensures.names c.self.inside.configs.items c.args.config c.self.invariant.0 (sym c.as_slice.ensures) in
    rw same (rw c.in-Ok-false.field-0-test at names, c.self.invariant.1)

pub invariant_of-self-2 : goal.invariant_of-self-2
invariant_of-self-2 c =
    let free : has_name c.self.inside.configs.items c.args.config.name ≡ false = grind (arith, common_steps, c.in-Ok-true.ensures.free c.self.inside.configs.items c.self.invariant.0) in
    let sound : is_sound c.args.config ≡ true = grind (arith, common_steps) in
    let grown : c.push.new.self.items ≡ c.self.inside.configs.items ++ c.args.config ∷ [] = grind (arith, common_steps) in
    let names = c.in-Ok-true.ensures.names c.self.inside.configs.items c.args.config c.self.invariant.0 (sym c.as_slice.ensures) in
    rw grown (rw c.in-Ok-true.field-0-test at names, one_more c.self.inside.configs.items c.args.config c.self.invariant.1 sound free)

pub returns-clause-configs : goal.returns-clause-configs
returns-clause-configs c = (invariant_of-self-2 c).1

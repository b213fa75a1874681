use Rattle.serf_world.proofs.Names.{[], ap, arith, drop, false, length, sym, take, ◌++◌, ◌+◌, ◌<◌, ◌∙◌, ◌∷◌, ◌≡◌, drop-cons, take-suc, common_steps, first_twice, has_name, twice_after}
use Rattle.serf_world.proofs.roster.Roster.from_vec.Goals as goal

pub loop-number-preserved : goal.loop-number-preserved
loop-number-preserved c =
    let xs = c.args.configs.items in
    let j = c.loop-number.number in
    let config = c.config-item.result in
    let within : j < length xs = grind (arith, common_steps) in
    let so_far : take (j + 1) xs ≡ take j xs ++ config ∷ [] = grind (arith, common_steps, take-suc xs j config within) in
    let left : drop j xs ≡ config ∷ drop (j + 1) xs = grind (arith, common_steps, drop-cons xs j config within) in
    let free : has_name (take j xs) config.name ≡ false = grind (arith, common_steps, c.in-Ok-true.ensures.free (take j xs) c.loop-number.invariant.0) in
    let names = c.in-Ok-true.ensures.names (take j xs) config c.loop-number.invariant.0 (sym c.as_slice.ensures) in
    let step : twice_after (take j xs) (config ∷ drop (j + 1) xs) ≡ first_twice xs = ap (twice_after (take j xs)) (sym left) ∙ c.loop-number.invariant.1 in
    rw so_far (rw c.in-Ok-true.field-0-test at names, rw free at step)

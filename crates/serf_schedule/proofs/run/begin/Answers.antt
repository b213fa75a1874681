use Rattle.serf_schedule.proofs.Names.{[], ap, arith, length, refl, ◌++◌}
use Rattle.serf_schedule.proofs.run.begin.Goals as goal

pub returns : goal.returns
returns g c = λ options front told.
    let done = c.in_ok-world.ensures.done in
    let count = ap length c.as_slice.ensures.agents in
    let begun = c.in_ok-begin.ensures options c.args.roster (front ++ c.args.text.now.items) told done count in
    record { some = omega arith; counted = refl; sized = count; acts = c.in_ok-act.ensures options c.args.roster [] [] front done begun refl }

use Rattle.serf_window.proofs.Names.{ap, arith, length, replicate, ◌++◌, ◌+◌, ◌-◌, ◌∙◌, ◌≤◌, unused_slot, all_slots}
use Rattle.serf_window.proofs.AllSlots.{all_slots-more}
use Rattle.serf_window.proofs.growth.reach.Goals as goal

pub returns-clause-same : goal.returns-clause-same
returns-clause-same g c =
    let le : length c.args.slots.now.items + (c.min.result - c.len-len.result) ≤ c.args.n = omega arith in
    ap (all_slots c.args.n) c.add_unused.ensures
    ∙ ap (λ l. all_slots c.args.n (l ++ replicate (c.min.result - c.len-len.result) unused_slot)) c.reserve_exact.ensures.items
    ∙ all_slots-more c.args.n (c.min.result - c.len-len.result) c.args.slots.now.items le

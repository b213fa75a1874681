use Rattle.serf_wire.proofs.Names.{nat_lt, refl, rules, true, ◌≡◌, list_all, slots_borrowed}
use Rattle.serf_wire.proofs.Unused.{all_borrowed}
use Rattle.serf_wire.proofs.put.write_slots_field.Goals as goal

pub returns-clause-times : goal.returns-clause-times
returns-clause-times c =
    let each : list_all (λ s. nat_lt s.time 18446744073709551615) (slots_borrowed c.args.slots.now) ≡ true = all_borrowed (λ s. nat_lt s.time 18446744073709551615) c.args.slots.now refl c.in_ok-write_slots.ensures.times in
    search rules

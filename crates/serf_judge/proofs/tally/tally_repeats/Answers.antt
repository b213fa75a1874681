use Rattle.serf_judge.proofs.Names.{List, ap, map, subst, ℕ, ◌∙◌, ◌≡◌, IfOk, Identity, handed_seen, repeats_among, tallies_of, told_of}
use Rattle.serf_judge.proofs.tally.tally_repeats.Goals as goal

pub returns : goal.returns
returns g c =
    let again : map handed_seen c.as_slice.result.now ≡ repeats_among (map g.E.Delivered.seen c.args.entries.now) = ap (map handed_seen) c.as_slice.ensures.value ∙ c.in_ok-again.ensures in
    subst (λ (ls : List (ℕ × Identity)). IfOk c.tallies.result (λ told. map told_of told.items ≡ tallies_of ls)) again c.tallies.ensures

use Rattle.serf_judge.proofs.Names.{Some, arith, refl, ℕ, ◌≡◌, slice_get_read, slice_get_within, slice_get, IsLater, EventEntry}
use Rattle.serf_judge.proofs.PlaceLaws.{below-or-here}
use Rattle.serf_judge.proofs.later.first_not_later.Goals as goal

pub returns-in-Some-clause-verdict : goal.returns-in-Some-clause-verdict
returns-in-Some-clause-verdict c =
    let inv = c.loop-place.invariant in
    let place : ℕ = c.loop-place.place in
    let firing : EventEntry = c.index-fired-place.result in
    let at : slice_get c.args.fired.now place ≡ Some firing = slice_get_read c.args.fired.now _ place firing refl c.loop-place-test.true c.index-fired-place.is in
    let now = c.in-Ok.ensures inv.1 inv.2 inv.5 (λ i e lt there. inv.3 i e lt there place firing (omega arith) at) in
    record { firing = firing; at = at; breaks = c.in-Some.ensures c.in-Ok.recorded now.1 now.2; lowest = inv.0 }

pub loop-place-preserved : goal.loop-place-preserved
loop-place-preserved c =
    let inv = c.loop-place.invariant in
    let place : ℕ = c.loop-place.place in
    let firing : EventEntry = c.index-fired-place.result in
    let at : slice_get c.args.fired.now place ≡ Some firing = slice_get_read c.args.fired.now _ place firing refl c.loop-place-test.true c.index-fired-place.is in
    let now = c.in-Ok.ensures inv.1 inv.2 inv.5 (λ i e lt there. inv.3 i e lt there place firing (omega arith) at) in (
      below-or-here (IsLater c.args.events.now) c.args.fired.now place firing at inv.0 (c.in_default.ensures c.in-Ok.recorded now.1 now.2),
      now.0,
      now.1,
      λ i e lt there k f more fired.
          let before = now.2.inside i e lt there in
          let le = inv.4 place k firing f (omega (arith, more)) at fired in
          omega (arith, before, le),
      inv.4,
      inv.5,
    )

pub returns-clause-verdict : goal.returns-clause-verdict
returns-clause-verdict c = λ k f there.
    let within = slice_get_within c.args.fired.now k f there in
    let end = c.loop-place-test.false in
    c.loop-place.invariant.0 k f (omega (arith, within, end)) there

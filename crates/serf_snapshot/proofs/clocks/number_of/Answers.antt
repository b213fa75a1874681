use Rattle.serf_snapshot.proofs.Names.{List, [], ap, arith, drop, min, sym, ℕ, ◌-◌, ◌<◌, ◌^◌, ◌∙◌, ◌≡◌, common_steps, read_on}
use Rattle.serf_snapshot.proofs.ClockLaws.{read_on-step}
use Rattle.serf_snapshot.proofs.clocks.number_of.Goals as goal

pub loop-d-preserved : goal.loop-d-preserved
loop-d-preserved c = record {
  fits = grind (arith, common_steps);
  same = read_on-step c.loop-d.n c.saturating_add-n.result (2 ^ 64 - 1) c.loop-d.d-index c.args.digits.now (omega arith) (grind (arith, common_steps)) ∙ c.loop-d.invariant.same;
}

pub returns : goal.returns
returns c =
    let none : drop c.loop-d.d-index c.args.digits.now ≡ [] = grind (arith, common_steps) in
    let n : min c.loop-d.n (2 ^ 64 - 1) ≡ c.loop-d.n = let fits : c.loop-d.n < 2 ^ 64 = c.loop-d.invariant.fits in omega arith in
    sym n ∙ sym (ap (λ (l : List ℕ). min (read_on c.loop-d.n l) (2 ^ 64 - 1)) none) ∙ c.loop-d.invariant.same

use Rattle.serf_judge.proofs.Names.{Some, ap, arith, false, sym, true, ◌∙◌, ◌≡◌, common_steps, slice_get-get_or, slice_get_within, slice_get, was_fired}
use Rattle.serf_judge.proofs.PlaceLaws.{below-or-here}
use Rattle.serf_judge.proofs.fired.unfired_by.Goals as goal

pub returns-then-not-is_fired : goal.returns-then-not-is_fired
returns-then-not-is_fired c = λ fired h.
    let event = c.index-events-place.result in
    let not_fired : c.is_fired.result ≡ false = grind (arith, common_steps) in
    record {
      event = event;
      at = slice_get-get_or c.args.events.now c.loop-place.place event c.loop-place-test.true ∙ ap (λ e. Some e) (sym c.index-events-place.is);
      unfired = sym (c.is_fired.ensures fired h) ∙ not_fired;
      lowest = c.loop-place.invariant fired h;
    }

pub loop-place-preserved : goal.loop-place-preserved
loop-place-preserved c = λ fired h.
    let event = c.index-events-place.result in
    let is : c.is_fired.result ≡ true = grind (arith, common_steps) in
    let at : slice_get c.args.events.now c.loop-place.place ≡ Some event = slice_get-get_or c.args.events.now c.loop-place.place event c.loop-place-test.true ∙ ap (λ e. Some e) (sym c.index-events-place.is) in
    below-or-here (λ e. was_fired c.args.starts.now fired e ≡ true) c.args.events.now c.loop-place.place event at (c.loop-place.invariant fired h) (sym (c.is_fired.ensures fired h) ∙ is)

pub returns : goal.returns
returns c = λ fired h k e at.
    let within = slice_get_within c.args.events.now k e at in
    let end = c.loop-place-test.false in
    c.loop-place.invariant fired h k e (omega arith) at

use Rattle.serf_snapshot.proofs.Names.{ap, arith, cond-false, cond-true, drop, length, sym, take, ◌+◌, ◌<◌, ◌∙◌}
use Rattle.serf_snapshot.proofs.HandlerLemmas.{begun-step}
use Rattle.serf_snapshot.proofs.handlers.mark_begun.Goals as goal
use Rattle.serf_snapshot.proofs.handlers.mark_begun.Goals.{then-is_same, else-is_same}

pub loop-other-preserved : goal.loop-other-preserved
loop-other-preserved c =
    let same_length = c.loop-other.auto.events in
    let in_old = c.loop-other-test.true in
    let in_now : c.loop-other.other-index < length c.loop-other.events = omega arith in
    elim c.if-is_same.branch [
      | then-is_same w ↦
          let s = begun-step c.args.event.now c.loop-other.events c.args.events.now c.loop-other.other-index c.other-item.result _ in_now in_old c.loop-other.invariant.0 c.loop-other.invariant.1 (sym (cond-true _ _ _ (sym c.is_same.ensures ∙ w.if-is_same.true))) in
          (ap (take (c.loop-other.other-index + 1)) w.events-is ∙ s.0, ap (drop (c.loop-other.other-index + 1)) w.events-is ∙ s.1)
      | else-is_same w ↦
          let s = begun-step c.args.event.now c.loop-other.events c.args.events.now c.loop-other.other-index c.other-item.result _ in_now in_old c.loop-other.invariant.0 c.loop-other.invariant.1 (sym (cond-false _ _ _ (sym c.is_same.ensures ∙ w.if-is_same.false))) in
          (ap (take (c.loop-other.other-index + 1)) w.events-is ∙ s.0, ap (drop (c.loop-other.other-index + 1)) w.events-is ∙ s.1)
    ]

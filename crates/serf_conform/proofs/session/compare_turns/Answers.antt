use Rattle.serf_conform.proofs.Names.{ap, arith, drop, length, subst, sym, take, ◌+◌, ◌-◌, ◌∙◌, ◌≡◌, common_steps, IsFew, made_after, turn_at, Tally}
use Rattle.serf_conform.proofs.SessionLemmas.{along_last, counted_few, next_ends, next_goes}
use Rattle.serf_conform.proofs.session.compare_turns.Goals as goal

pub returns-in-empty : goal.returns-in-empty
returns-in-empty g c = λ w held is h.
    let at = c.turns.invariant.0 w held is h in
    let none : length c.turns.actions.now ≡ 0 = omega arith in
    along_last _ _ _ _ _ _ _ _ _ c.args.subject.now.config.now at.0 _ _ _ _ _ _ _ none at.2 (λ w' h' more. c.dump_last.ensures c.args.subject.now.agent c.args.subject.now.config.now at.0 w' h' at.1 more)

pub returns-in-Some : goal.returns-in-Some
returns-in-Some g c = λ w held is h.
    let at = c.turns.invariant.0 w held is h in
    next_ends _ _ _ _ _ _ _ _ _ c.args.subject.now.config.now at.0 _ _ _ _ _ _ _ _ _ _ c.in-len1-up.len_at_least c.action-item.is c.in-len1-up-lines.len_at_least c.line-item.is
    at.2 (c.in_ok-due-in-len1-up-lines.ensures.due c.args.subject.now.config.now at.0 at.1) c.in_ok-outcome-in-len1-up-lines.ensures.taken _ (sym c.ending.ensures ∙ c.in-Some.is)

pub turns-preserved : goal.turns-preserved
turns-preserved g c =
    let more : take (length c.turns.actions.now - 1) (drop 1 c.turns.actions.now) ≡ drop 1 c.turns.actions.now = grind (arith, common_steps) in
    let following : take (length c.turns.lines.now - 1) (drop 1 c.turns.lines.now) ≡ drop 1 c.turns.lines.now = grind (arith, common_steps) in
    let own : length c.as_slice.result.now ≡ length c.line-item.result.sent = ap length c.as_slice.ensures in
    let fits = c.in_ok-outcome-in-len1-up-lines.ensures.fits in (
      λ v held is h.
          let at = c.turns.invariant.0 v held is h in (
            made_after c.args.subject.now.agent (turn_at c.turns.count c.args.run.now.sent.now c.action-item.result c.line-item.result) at.0,
            c.in_ok-due-in-len1-up-lines.ensures.solo c.args.subject.now.config.now at.0 at.1,
            next_goes _ _ _ _ _ _ _ _ _ c.args.subject.now.config.now at.0 _ _ _ _ _ _ _ _ _ _ c.in-len1-up.len_at_least c.action-item.is c.in-len1-up-lines.len_at_least c.line-item.is
                at.2 (c.in_ok-due-in-len1-up-lines.ensures.due c.args.subject.now.config.now at.0 at.1) c.in_ok-outcome-in-len1-up-lines.ensures.taken _ _ _ _ (sym c.ending.ensures ∙ c.in_default.is) more following own c.counted-more.ensures,
          ),
      grind (arith, common_steps, more),
      subst (λ (t : Tally). IsFew t (c.turns.number + 1)) (sym c.counted-more.ensures) (counted_few c.in_ok-outcome-in-len1-up-lines.outcome c.turns.tally c.turns.number c.turns.invariant.2),
      omega (arith, own, fits),
    )

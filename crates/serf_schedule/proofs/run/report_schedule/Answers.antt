use Rattle.serf_schedule.proofs.Names.{List, [], ap, append_assoc, arith, length, length-append, refl, subst, sym, ◌++◌, ◌+◌, ◌∙◌, ◌∷◌, ◌≡◌, common_steps, append-nil, into_iter_items, Action}
use Rattle.serf_schedule.proofs.run.report_schedule.Goals as goal

pub loop-action-init : goal.loop-action-init
loop-action-init g c =
    let all = c.into_iter-action-iterator.ensures.into_iter_gives.0 in (
      λ options told.
          let done = c.in_ok-world.ensures.done in
          let begun = c.in_ok-begin.ensures options c.args.schedule.agents [] told done (ap length c.as_slice.ensures.agents) in (
            [],
            record { lines = []; done = done; tells = subst (g.T.Turns.told options c.begin.new.self c.args.schedule.agents []) (sym c.new-text.ensures.items) begun },
            refl,
            all,
          ),
      omega (arith, ap length all),
    )

pub loop-action-preserved : goal.loop-action-preserved
loop-action-preserved g c =
    let inv = c.loop-action.invariant in
    let action : Action = c.in-Some.action in
    let next : into_iter_items c.loop-action.action-iterator ≡ action ∷ into_iter_items c.next.new.self = grind (arith, common_steps) in (
      λ options told.
          let i = inv.0 options told in
          let one : c.loop-action.number + 1 ≡ length i.0 + 1 = omega (arith, i.2) in (
            i.0 ++ action ∷ [],
            c.in_ok-act.ensures options c.args.schedule.agents i.0 i.1.lines [] i.1.done i.1.tells one,
            one ∙ sym (length-append i.0 (action ∷ [])),
            append_assoc i.0 (action ∷ []) (into_iter_items c.next.new.self) ∙ ap (λ (left : List Action). i.0 ++ left) (sym next) ∙ i.3,
          ),
      omega (arith, ap length next, inv.1),
    )

pub returns : goal.returns
returns g c = λ options told.
    let i = c.loop-action.invariant.0 options told in
    let none : into_iter_items c.loop-action.action-iterator ≡ [] = grind (arith, common_steps) in
    let whole : i.0 ≡ c.args.schedule.actions.items = sym (append-nil i.0) ∙ ap (λ (left : List Action). i.0 ++ left) (sym none) ∙ i.3 in
    subst (λ (actions : List Action). g.T.Turns.told options c.loop-action.reporter c.args.schedule.agents actions c.loop-action.text.items) whole i.1.tells

use Rattle.serf_schedule.proofs.Names.{List, [], ap, append_assoc, subst, sym, ℕ, ◌++◌, ◌∙◌, ◌∷◌, on_ok_weaker, action_text, tells_trace}
use Rattle.serf_schedule.proofs.TraceLaws.{tells-more}
use Rattle.serf_schedule.proofs.show.TraceTextTurns.tell.Goals as goal

pub returns : goal.returns
returns c = λ options configs done lines front told h took counted.
    let old : List ℕ = c.args.out.now.items in
    let all = tells-more configs done c.args._action.now c.args.world.now c.args.line c.args.number (front ++ old) told took counted in
    on_ok_weaker c.write_action.result
    (λ put. subst (tells_trace configs (done ++ c.args._action.now ∷ []))
    (append_assoc front old (action_text c.args.world.now.sent c.args.number c.args.line) ∙ ap (λ (t : List ℕ). front ++ t) (sym (put ∙ ap (λ s. old ++ action_text s c.args.number c.args.line) c.sent.ensures)))
    all)
    c.write_action.ensures

use Rattle.std.proofs.Common.{List, [], ap, append_assoc, subst, sym, ℕ, ◌++◌, ◌∙◌, ◌∷◌}
use Rattle.std.proofs.lemmas.Result.{on_ok_weaker}
use Rattle.serf_run_json.specs.Members.{settings_of}
use Rattle.serf_run_json.specs.Readable.{action_text, tells_run}
use Rattle.serf_run_json.proofs.RunTextLaws.{tells-more}
use Rattle.serf_run_json.proofs.readable.RunTextTurns.tell.Goals as goal

pub returns : goal.returns
returns c = λ options configs done lines front told h took counted.
    let old : List ℕ = c.args.out.now.items in
    let w = c.args.world.now in
    let all = tells-more configs done c.args.action.now w c.args.line c.args.number (front ++ old) told took counted in
    on_ok_weaker c.write_turn.result
    (λ put. subst (tells_run configs (done ++ c.args.action.now ∷ []))
    (append_assoc front old (action_text (settings_of w) w.sent c.args.number c.args.action.now c.args.line) ∙ ap (λ (t : List ℕ). front ++ t) (sym put))
    all)
    c.write_turn.ensures

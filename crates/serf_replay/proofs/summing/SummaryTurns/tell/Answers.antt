use Rattle.serf_replay.proofs.Names.{List, [], ap, map, subst, sym, ◌++◌, ◌∙◌, ◌∷◌, ◌≡◌, map-append, fold_push, on_ok_weaker, Run, after, run_of, start, step, Action, Line, IsSummary}
use Rattle.serf_replay.proofs.summing.SummaryTurns.tell.Goals as goal

pub returns : goal.returns
returns c = λ options configs done lines front told h took counted.
    let r : Run = run_of configs done in
    let action : Action = c.args._action.now in
    let before : List Line = map (λ t. t.line) r.turns in
    let now : before ++ c.args.line ∷ [] ≡ map (λ t. t.line) (run_of configs (done ++ action ∷ [])).turns =
    ap (λ (l : Line). before ++ l ∷ []) took.line_is ∙ sym (map-append (λ t. t.line) r.turns ((step r.cluster action).turn ∷ []))
    ∙ ap (λ (q : Run). map (λ t. t.line) q.turns) (sym (fold_push after (start configs) done action)) in
    on_ok_weaker c.add.result (λ s. (subst (IsSummary c.add.new.self) now s, told.1)) (c.add.ensures before told.0)

use Rattle.serf_explain.proofs.Names.{[], ap, subst, sym, ◌++◌, ◌+◌, ◌∙◌, ◌∷◌, run_of, clusters_before, TellsText}
use Rattle.serf_explain.specs.Reasoned.{lines_of}
use Rattle.serf_explain.proofs.TellLaws.{clusters-length, lines-length}
use Rattle.serf_explain.proofs.reasoning.ReasoningTurns.inspect.Goals as goal

pub returns : goal.returns
returns c = λ range configs done lines text told h counted.
    let r = run_of configs done in
    let before = clusters_before configs done in
    let merge = c.in_ok-lines_before.ensures (lines_of r) before r.cluster h.view h.representable told.2 told.1.records_are (counted ∙ ap (λ n. n + 1) (sym (clusters-length configs done))) (counted ∙ ap (λ n. n + 1) (sym (lines-length configs done))) in
    (told, subst (λ n. TellsText n (lines_of r) (before ++ r.cluster ∷ []) r.cluster c.args.action.now c.lines_before.new.lines.raised c.lines_before.new.lines.text.items) counted merge)

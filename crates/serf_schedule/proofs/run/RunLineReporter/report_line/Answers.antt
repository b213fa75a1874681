use Rattle.serf_schedule.proofs.Names.{List, ap, subst, sym, ℕ, ◌++◌, ◌∙◌, ◌≡◌, append-nil, LineError, HasRun, IsLineRefused}
use Rattle.serf_schedule.proofs.run.RunLineReporter.report_line.Goals as goal

pub returns-in-Ok-clause-done : goal.returns-in-Ok-clause-done
returns-in-Ok-clause-done g c = λ lines before s empty.
    let same : before ≡ before ++ c.args.text.now.items = sym (append-nil before) ∙ ap (λ (t : List ℕ). before ++ t) (sym empty) in
    (s.0, s.1, c.in-Ok.ensures.done s.0 lines before (subst (HasRun (g.T.Turns.told s.0) c.args.self.now lines) same s.2))

pub returns-in-Err-Bad-clause-refused : goal.returns-in-Err-Bad-clause-refused
returns-in-Err-Bad-clause-refused g c = λ lines before s.
    subst (λ (f : LineError). IsLineRefused f lines c.args.line.now) c.in-Err-Bad.field-0-is (c.in-Err-Bad.ensures.refused s.0 lines before s.2)

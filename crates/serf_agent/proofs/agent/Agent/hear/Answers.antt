use Rattle.serf_agent.proofs.Names.{Err, List, None, Ok, Option, Result, ap, refl, subst, sym, ℕ, ◌∙◌, ◌≡◌, ◌≢◌, err_from_is_err_and, push_pull_said, Kept, AppendLineError, written_min_line, EndsAppendLine, MayAppendLine, device_appended, appended_with, AgentState, ConcreteState, concrete_with}
use Rattle.serf_snapshot.specs.declared.kind.ClockKind.TheVariants as kinds
use Rattle.serf_agent.proofs.MergeLaws.{heard-kept, heard-memory, heard-wrong}
use Rattle.serf_agent.proofs.agent.Agent.hear.Goals as goal

-- an append that succeeded had no error
ok-not-err : (error : AppendLineError) (r : Result (Unit {0}) AppendLineError) → r ≡ Ok tt → r ≡ Err error → ⊥
ok-not-err error r ok err = cc

pub returns-in_err-line-clause-heard : goal.returns-in_err-line-clause-heard
returns-in_err-line-clause-heard g c = λ i sound is.
    let p = err_from_is_err_and c.from_residual.result c.from_residual.ensures.1 in
    let m = push_pull_said c.args.state.now in
    let was = ap (λ (a : AgentState). a.concrete) c.self.view_is ∙ is in
    let some : written_min_line i.config m c.args.is_join ≢ None = subst (λ (s : ConcreteState). written_min_line s.config m c.args.is_join ≢ None) was c.in_err-line.ensures.needed in
    rw (p.1, p.2) (heard-memory i m c.args.is_join c.args.self.now.device c.args.self.now sound some is refl)

pub returns-in_err-append_min_line-clause-heard : goal.returns-in_err-append_min_line-clause-heard
returns-in_err-append_min_line-clause-heard g c = λ i sound is.
    let p = err_from_is_err_and c.from_residual-in_err-append_min_line.result c.from_residual-in_err-append_min_line.ensures.1 in
    let error = c.in_err-append_min_line.field-0.0 in
    let m = push_pull_said c.args.state.now in
    let old = c.args.self.now in
    let new = c.append_min_line.new.self in
    let was = ap (λ (a : AgentState). a.concrete) c.self.view_is ∙ is in
    let told = c.in_ok-line.ensures.line ∙ ap (λ (s : ConcreteState). written_min_line s.config m c.args.is_join) was in
    let ends = subst (λ (o : Option (List ℕ)). EndsAppendLine kinds.Event 0 o old new error) told c.in_err-append_min_line.ensures.line in
    let some : written_min_line i.config m c.args.is_join ≢ None = λ none. ok-not-err error c.append_min_line.result (c.append_min_line.ensures.none (told ∙ none)) c.in_err-append_min_line.was in
    rw (p.1, p.2) (heard-wrong c.sound_snapshots.ensures i m c.args.is_join old new error sound is some ends)

pub returns-clause-heard : goal.returns-clause-heard
returns-clause-heard g c = λ i sound is.
    let m = push_pull_said c.args.state.now in
    let old = c.args.self.now in
    let mid = c.append_min_line.new.self in
    let new = c.join.new.self in
    let was = ap (λ (a : AgentState). a.concrete) c.self.view_is ∙ is in
    let told = c.in_ok-line.ensures.line ∙ ap (λ (s : ConcreteState). written_min_line s.config m c.args.is_join) was in
    let runs = sym (ap (λ (s : ConcreteState). s.snapshot.stopped) is) ∙ c.requires in
    let e = c.in_ok-append_min_line.ensures in
    let may = subst (λ (o : Option (List ℕ)). MayAppendLine kinds.Event 0 o i.snapshot Kept) told (subst (λ (s : ConcreteState). MayAppendLine kinds.Event 0 c.in_ok-line.line s.snapshot Kept) is e.line.allowed) in
    let noted = e.noted ∙ (λ k. concrete_with (appended_with kinds.Event 0 (told k) (is k).snapshot Kept) (is k)) in
    let device = c.join.ensures.snapshot.1 ∙ e.line.device ∙ (λ k. device_appended kinds.Event 0 (told k) (is k).snapshot old.device) in
    heard-kept c.sound_snapshots.ensures i m c.args.is_join old.device mid new sound runs may noted device c.join.ensures.joined

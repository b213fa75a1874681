use Rattle.serf_run_json.proofs.Names.{Bool, List, subst, sym, ℕ, on_ok_weaker, AddsExplanation}
use Rattle.serf_run_json.proofs.ObjectLaws.{explained, not-explained}
use Rattle.serf_run_json.proofs.teller.write_explanation.Goals as goal

pub returns-then-not-is_shown : goal.returns-then-not-is_shown
returns-then-not-is_shown c =
    let old : List ℕ = c.args.out.now.items in
    subst (λ (b : Bool). AddsExplanation b old old) (sym c.if-not-is_shown.true) (not-explained old)

pub returns : goal.returns
returns c =
    let old : List ℕ = c.args.out.now.items in
    let between : List ℕ = c.write_reasons.new.out.items in
    let new : List ℕ = c.write_state.new.out.items in
    on_ok_weaker c.write_state.result
    (λ h. subst (λ (b : Bool). AddsExplanation b old new) (sym c.if-not-is_shown.false) (explained old between new c.in_ok-write_reasons.ensures h))
    c.write_state.ensures

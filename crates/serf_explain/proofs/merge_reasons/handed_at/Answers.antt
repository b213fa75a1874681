use Rattle.serf_explain.proofs.Names.{None, Some, inl, inr, min, refl, sym, ℕ, ◌+◌, ◌-◌, ◌^◌, ◌∙◌, ◌≡◌}
use Rattle.serf_explain.proofs.merge_reasons.handed_at.Goals as goal

pub returns-in-Some-clause-handed : goal.returns-in-Some-clause-handed
returns-in-Some-clause-handed c = λ i j h is. record { right = inl c.in-Some.ensures.recorded; none = λ q. absurd (cc q) }

pub returns-in-Some-clause-cursor : goal.returns-in-Some-clause-cursor
returns-in-Some-clause-cursor c = λ stands.
    let both : Some c.in-Some.found.place ≡ Some c.args.cursor.now.next = c.in-Some.ensures.place stands in
    let is : c.in-Some.found.place ≡ c.args.cursor.now.next = cc both in
    let next : c.saturating_add.result ≡ min (c.args.cursor.now.next + (c.args.cursor.now.next - c.args.cursor.now.named)) (2 ^ 64 - 1) =
    c.saturating_add.ensures ∙ (λ j. min (c.in-Some.found.place + c.saturating_sub-step.ensures j) (2 ^ 64 - 1)) ∙ (λ j. min (is j + (is j - c.args.cursor.now.named)) (2 ^ 64 - 1)) in
    λ k. record { named = is k; next = next k }

pub returns-then-took-clause-handed : goal.returns-then-took-clause-handed
returns-then-took-clause-handed c = λ i j h is. record { right = inr (refl, sym (c.took.ensures i j h is) ∙ c.if-took.true); none = λ q. absurd (cc q) }

pub returns-then-took-clause-cursor : goal.returns-then-took-clause-cursor
returns-then-took-clause-cursor c = λ stands. let both : None ≡ Some c.args.cursor.now.next = c.in-None.ensures.place stands in absurd (cc both)

pub returns-else-took-clause-handed : goal.returns-else-took-clause-handed
returns-else-took-clause-handed c = λ i j h is. record { right = tt; none = λ q. sym (c.took.ensures i j h is) ∙ c.if-took.false }

pub returns-else-took-clause-cursor : goal.returns-else-took-clause-cursor
returns-else-took-clause-cursor c = λ stands. let both : None ≡ Some c.args.cursor.now.next = c.in-None.ensures.place stands in absurd (cc both)

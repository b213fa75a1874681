use Rattle.serf_agent_c.proofs.Names.{ap, sym, ℕ, ◌+◌, ◌∙◌, ◌≡◌, unsettled_in, waiting_at, settled}
use Rattle.serf_agent_c.proofs.NumberedLaws.{next-found, other-found}
use Rattle.serf_agent_c.proofs.session.Session.handed_at.Goals as goal

pub returns-then-number-next_number : goal.returns-then-number-next_number
returns-then-number-next_number c =
    let s = c.args.self.now in
    let same : c.args.number ≡ s.waiting.handed + 1 = c.if-number-next_number.true ∙ c.next_number.ensures in
    c.unsettled.ensures ∙ sym (ap (λ (n : ℕ). waiting_at n (settled s).waiting) same ∙ next-found s.waiting.handed s.waiting.queries.items (unsettled_in s.call_result) s.waiting.below)

pub returns-else-number-next_number : goal.returns-else-number-next_number
returns-else-number-next_number c =
    let s = c.args.self.now in
    c.get.ensures ∙ sym (other-found c.args.number s.waiting.handed s.waiting.queries.items (unsettled_in s.call_result) (λ is. c.if-number-next_number.false (sym is ∙ sym c.next_number.ensures)))

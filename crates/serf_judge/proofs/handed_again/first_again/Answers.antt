use Rattle.serf_judge.proofs.Names.{IfOk, ap, subst, sym, ℕ, ◌∙◌, ◌≡◌, position_from, position_from-zero, Reader, is_again, is_line_from, opened_on, serf_clock, serf_minimum}
use Rattle.serf_judge.proofs.handed_again.first_again.Goals as goal

pub returns-in-Serf : goal.returns-in-Serf
returns-in-Serf g c =
    let clock : c.serf_clock_in.result ≡ serf_clock c.in-Serf.rejoins g.E.Offered.kind c.args.text.now = c.serf_clock_in.ensures in
    let lowest : c.serf_minimum-minimum.result ≡ serf_minimum (serf_clock c.in-Serf.rejoins g.E.Offered.kind c.args.text.now) = c.serf_minimum-minimum.ensures ∙ ap serf_minimum clock in
    c.first_of_node_since.ensures
    ∙ position_from-zero (is_line_from g.E.Delivered.seen c.args.node.now c.serf_minimum-minimum.result) c.args.entries.now
    ∙ ap (λ (m : ℕ). position_from (is_line_from g.E.Delivered.seen c.args.node.now m) 0 c.args.entries.now) lowest
    ∙ ap (λ (r : Reader). position_from (is_again g.E.Offered.kind g.E.Delivered.seen g.E.Offered.is_new r c.args.text.now c.args.node.now) 0 c.args.entries.now) (sym c.in-Serf.is)

pub returns-in_ok-agent-in-Agent : goal.returns-in_ok-agent-in-Agent
returns-in_ok-agent-in-Agent g c =
    subst (λ (r : Reader). IfOk c.first_new.result (λ place. place ≡ position_from (is_again g.E.Offered.kind g.E.Delivered.seen g.E.Offered.is_new r c.args.text.now c.args.node.now) 0 c.args.entries.now))
    (sym c.in-Agent.is)
    (c.first_new.ensures (opened_on c.in-Agent.keeps c.args.text.now) c.in_ok-agent-in-Agent.ensures.1 c.in_ok-agent-in-Agent.ensures.0)

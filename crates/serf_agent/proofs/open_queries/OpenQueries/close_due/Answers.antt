use Rattle.serf_agent.proofs.Names.{List, ap, arith, filter, length, not, rules, ℕ, ◌∙◌, ◌≡◌, filter-RetainsPairs, is_due, OpenQuery}
use Rattle.serf_agent.proofs.OpenQueryLaws.{count-rest}
use Rattle.serf_agent.proofs.open_queries.OpenQueries.close_due.Goals as goal

pub returns-clause-left : goal.returns-clause-left
returns-clause-left c = filter-RetainsPairs _ (λ q. not (is_due c.args.now q)) _ (λ k v b w g call. search rules) _ _ c.retain.ensures.filtered ∙ ap (λ (l : List (ℕ × OpenQuery)). filter (λ q. not (is_due c.args.now q)) l) c.self.view_is

pub returns-clause-count : goal.returns-clause-count
returns-clause-count c =
    let old = c.self.inside.queries.entries in
    let left = filter-RetainsPairs _ (λ q. not (is_due c.args.now q)) _ (λ k v b w g call. search rules) _ _ c.retain.ensures.filtered in
    let rest : length c.retain.new.self.entries ≡ length (filter (λ q. not (is_due c.args.now q)) old) = ap (λ (l : List (ℕ × OpenQuery)). length l) left in
    rw (← c.self.view_is) (omega (arith, rest, count-rest (is_due c.args.now) old, c.len.ensures.len, c.len-before.ensures.len))

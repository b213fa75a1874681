use Rattle.serf_agent_c.proofs.Names.{List, ap, filter, nat_le, rules, subst, sym, ℕ, ◌<◌, ◌≡◌, ◌≤◌, filter_same, All-filter, AllPairs-filter, DeliveredQuery}
use Rattle.std.proofs.Common.{All, AllPairs}
use Rattle.serf_agent_c.proofs.NumberedLaws.{filled, late-gone}
use Rattle.serf_agent_c.proofs.waiting.Waiting.forget_late.Goals as goal

pub invariant_of-self : goal.invariant_of-self
invariant_of-self c =
    let old = c.args.self.now.queries.items in
    let handed = c.args.self.now.handed in
    let test = λ (w : ℕ × DeliveredQuery). nat_le c.args.now w.1.deadline in
    let left : c.retain.new.self.items ≡ filter test old = filter_same _ test _ (λ x b q call. (search rules, search rules)) _ _ c.retain.ensures.filtered in
    record {
      room = c.args.self.now.room;
      below = subst (λ (l : List (ℕ × DeliveredQuery)). All (λ w. w.0 ≤ handed) l) (sym left) (All-filter test (λ (w : ℕ × DeliveredQuery). w.0 ≤ handed) old c.args.self.now.below);
      once = subst (λ (l : List (ℕ × DeliveredQuery)). AllPairs (λ v w. v.0 < w.0) l) (sym left) (AllPairs-filter (λ (v w : ℕ × DeliveredQuery). v.0 < w.0) test old c.args.self.now.once);
    }

pub returns-clause-left : goal.returns-clause-left
returns-clause-left c =
    let old = c.args.self.now.queries.items in
    let test = λ (w : ℕ × DeliveredQuery). nat_le c.args.now w.1.deadline in
    let left : c.retain.new.self.items ≡ filter test old = filter_same _ test _ (λ x b q call. (search rules, search rules)) _ _ c.retain.ensures.filtered in
    ap (λ (l : List (ℕ × DeliveredQuery)). filled c.args.self.now.handed l) left

pub returns-clause-in_time : goal.returns-clause-in_time
returns-clause-in_time c =
    let old = c.args.self.now.queries.items in
    let handed = c.args.self.now.handed in
    let test = λ (w : ℕ × DeliveredQuery). nat_le c.args.now w.1.deadline in
    let left : c.retain.new.self.items ≡ filter test old = filter_same _ test _ (λ x b q call. (search rules, search rules)) _ _ c.retain.ensures.filtered in (
      subst (λ (l : List (ℕ × DeliveredQuery)). All (λ w. c.args.now ≤ w.1.deadline) l) (sym left) (late-gone c.args.now old),
      (
        subst (λ (l : List (ℕ × DeliveredQuery)). AllPairs (λ v w. v.0 < w.0) l) (sym left) (AllPairs-filter (λ (v w : ℕ × DeliveredQuery). v.0 < w.0) test old c.args.self.now.once),
        subst (λ (l : List (ℕ × DeliveredQuery)). All (λ w. w.0 ≤ handed) l) (sym left) (All-filter test (λ (w : ℕ × DeliveredQuery). w.0 ≤ handed) old c.args.self.now.below),
      ),
    )

use Rattle.serf_judge.proofs.Names.{List, ap, arith, cond, length, nat_lt, sym, true, ℕ, ◌==◌, ◌∙◌, ◌∷◌, ◌≡◌, Event, Member, Query, prefix_of, lt-ltb, length-slice_split, lines_of, clock_after, clock_after_all}
use Rattle.serf_judge.proofs.stock_serf.serf_clocks.Goals as goal

pub lines-preserved : goal.lines-preserved
lines-preserved c =
    let line : List ℕ = c.split_once.result.0.now in
    let left : List (List ℕ) = lines_of c.in-Some.next.now in
    let more : nat_lt 0 (length left) ≡ true = lt-ltb 0 (length left) (omega (arith, length-slice_split (λ b. b == 10) c.in-Some.next.now)) in
    let parts : lines_of c.lines.rest.now ≡ line ∷ left = rw c.in-Some.is at c.split_once.ensures.parts in
    let step : (prefix : List ℕ) (old new : ℕ) → new ≡ clock_after c.args.rejoins prefix old line
    → clock_after_all c.args.rejoins prefix new left ≡ clock_after_all c.args.rejoins prefix old (lines_of c.lines.rest.now) =
    λ prefix old new is.
    ap (λ n. clock_after_all c.args.rejoins prefix n left) is
    ∙ sym (ap (λ b. clock_after_all c.args.rejoins prefix (cond b (clock_after c.args.rejoins prefix old line) old) left) more)
    ∙ sym (ap (clock_after_all c.args.rejoins prefix old) parts) in (
      step (prefix_of Member) _ _ c.after_line-clocks.ensures.member ∙ c.lines.invariant.0,
      step (prefix_of Event) _ _ c.after_line-clocks.ensures.event ∙ c.lines.invariant.1,
      step (prefix_of Query) _ _ c.after_line-clocks.ensures.query ∙ c.lines.invariant.2,
    )

use Rattle.serf_judge.proofs.Names.{ap, arith, cond, length, nat_lt, sym, true, ◌&&◌, ◌==◌, ◌∙◌, ◌∷◌, ◌≡◌, lt-ltb, length-slice_split, lines_of, counted_from, is_leave}
use Rattle.serf_judge.proofs.kept.after_leave.Goals as goal

pub lines-preserved-then-is_leave_line : goal.lines-preserved-then-is_leave_line
lines-preserved-then-is_leave_line c =
    let start = lines_of c.lines.start.now in
    let rest = lines_of c.in-Some.next.now in
    let here : is_leave c.split_once.result.0.now ≡ true = sym c.is_leave_line.ensures ∙ c.if-is_leave_line.true in
    let more : nat_lt 0 (length rest) ≡ true = lt-ltb 0 (length rest) (omega (arith, length-slice_split (λ b. b == 10) c.in-Some.next.now)) in
    let parts : lines_of c.lines.rest.now ≡ c.split_once.result.0.now ∷ rest = rw c.in-Some.is at c.split_once.ensures.parts in
    let step = ap (counted_from start) parts ∙ ap (λ b. counted_from (cond (b && nat_lt 0 (length rest)) rest start) rest) here ∙ ap (λ b. counted_from (cond b rest start) rest) more in
    sym step ∙ c.lines.invariant

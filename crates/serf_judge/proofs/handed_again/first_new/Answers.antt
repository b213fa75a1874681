use Rattle.serf_judge.proofs.Names.{Bool, Some, ap, arith, false, length, sym, true, ℕ, ◌&&◌, ◌+◌, ◌-◌, ◌∙◌, ◌∷◌, ◌≡◌, ◌≤◌, position_from, is_line_of}
use Rattle.serf_judge.proofs.HandedAgainLaws.{found, none-left, passed-by}
use Rattle.serf_judge.proofs.handed_again.first_new.Goals as goal

pub returns-in_default : goal.returns-in_default
returns-in_default g c = λ i sound view.
    sym (none-left _ (length c.args.entries.now - length c.entries.left.now) c.entries.left.now c.in_default.ensures.cases) ∙ c.entries.invariant.0 i sound view

pub returns-then-branch : goal.returns-then-branch
returns-then-branch g c = λ i sound view.
    let p : g.row.E.Denot → Bool = λ e. is_line_of g.E.Delivered.seen c.args.node.now e && g.E.Offered.is_new c.args.text.now i e in
    let k : ℕ = length c.args.entries.now - length c.entries.left.now in
    let passes : p c.in-Some.entry.now ≡ true = sym (c.in_ok-is_new_for.ensures i sound view) ∙ c.if-branch.true in
    let first : position_from p k c.entries.left.now ≡ Some k =
    ap (position_from p k) c.in-Some.ensures.cases.0 ∙ found p k c.in-Some.entry.now c.in-Some.rest.now passes in
    sym first ∙ c.entries.invariant.0 i sound view

pub entries-preserved : goal.entries-preserved
entries-preserved g c =
    let n : ℕ = length c.args.entries.now in
    let size : length c.in-Some.rest.now + 1 ≡ length c.entries.left.now = c.in-Some.ensures.cases.1 in
    let fits : length c.in-Some.rest.now + 1 ≤ n = omega (arith, size, c.entries.invariant.1) in (
      λ i sound view.
          let p : g.row.E.Denot → Bool = λ e. is_line_of g.E.Delivered.seen c.args.node.now e && g.E.Offered.is_new c.args.text.now i e in
          let fails : p c.in-Some.entry.now ≡ false = sym (c.in_ok-is_new_for.ensures i sound view) ∙ c.if-branch.false in
          let left : position_from p (n - length c.entries.left.now) c.entries.left.now ≡ position_from p (n - (length c.in-Some.rest.now + 1)) (c.in-Some.entry.now ∷ c.in-Some.rest.now) =
          ap (λ m. position_from p (n - m) c.entries.left.now) (sym size)
          ∙ ap (position_from p (n - (length c.in-Some.rest.now + 1))) c.in-Some.ensures.cases.0 in
          sym (left ∙ passed-by p n c.in-Some.entry.now c.in-Some.rest.now fits fails) ∙ c.entries.invariant.0 i sound view,
      omega (arith, fits),
    )

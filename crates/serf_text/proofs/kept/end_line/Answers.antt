use Rattle.serf_text.proofs.Names.{[], arith, ◌++◌, ◌≡◌, common_steps}
use Rattle.serf_text.proofs.kept.end_line.Goals as goal

pub returns-then-is_empty-clause-stopped : goal.returns-then-is_empty-clause-stopped
returns-then-is_empty-clause-stopped g c = λ lines first now h.
    let none : c.args.kept.now.held.items ≡ [] = grind (arith, common_steps) in
    rw none (c.answer_line.ensures.stopped lines first now h)

pub returns-clause-stopped : goal.returns-clause-stopped
returns-clause-stopped g c = λ lines first now h.
    let whole : c.as_slice.result.now ≡ c.args.kept.now.held.items ++ c.args.piece.now = grind (arith, common_steps) in
    rw (← whole) (c.answer_line-answered.ensures.stopped lines first now h)

use Rattle.serf_snapshot.proofs.Names.{ap, arith, false, refl, ℕ, ◌≡◌, nat_lt}
use Rattle.serf_snapshot.proofs.LengthLaws.{compaction-counted}
use Rattle.serf_snapshot.proofs.lengths.compaction_length.Goals as goal

pub returns-clause-exact : goal.returns-clause-exact
returns-clause-exact c = λ lines counts.
    let last = c.args.last in
    compaction-counted lines last.member_clock last.event_clock last.query_clock c.args.lines_length c.saturating_add.result (nat_lt 0 c.args.lines_length) counts refl
    (omega (arith, c.saturating_add.ensures, c.line_length.ensures.exact, c.length_after.ensures.exact, c.length_after-2.ensures.exact))

pub returns-clause-short : goal.returns-clause-short
returns-clause-short c = λ none.
    let off : nat_lt 0 c.args.lines_length ≡ false = ap (λ (k : ℕ). nat_lt 0 k) none in
    omega (arith, c.saturating_add.ensures, none, c.line_length.ensures.short, c.length_after.ensures.plain off, c.length_after-2.ensures.plain off)

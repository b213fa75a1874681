use Rattle.serf_judge.proofs.Names.{List, ap, map, subst, sym, take, take_all, ℕ, map_more, Identity, handed_seen, AreTallied}
use Rattle.serf_judge.proofs.TallyLaws.{no_line}
use Rattle.serf_judge.proofs.tally.table_of.Goals as goal

pub loop-line-preserved : goal.loop-line-preserved
loop-line-preserved c =
    let more = c.in_ok-add_line.ensures (map handed_seen (take c.loop-line.line-index c.args.lines.now)) c.loop-line.invariant in
    subst (λ (lines : List (ℕ × Identity)). AreTallied lines c.add_line.new.table) (sym (map_more handed_seen c.args.lines.now c.loop-line.line-index no_line c.loop-line-test.true)) more

pub returns : goal.returns
returns c = subst (λ (lines : List (ℕ × Identity)). AreTallied lines c.loop-line.table) (ap (map handed_seen) (take_all c.loop-line.line-index c.args.lines.now c.loop-line-test.false)) c.loop-line.invariant

use Rattle.serf_judge.proofs.Names.{refl, get, handed_seen, is_same_text, lines_to}
use Rattle.serf_judge.proofs.TallyLaws.{line-tallied}
use Rattle.serf_judge.proofs.tally.add_line.Goals as goal

pub returns : goal.returns
returns c = λ lines h.
    let key = c.args.line.key.node in
    let own = c.one_more-tally.ensures (lines_to key.now lines) (c.tally_at.ensures lines h) in
    line-tallied lines (handed_seen c.args.line) key c.one_more-tally.result (λ q. get is_same_text c.args.table.now q) (λ q. get is_same_text c.insert.new.self q) h refl own (λ q. c.in_ok-insert.ensures.updates.0 q)

use Rattle.serf_snapshot.proofs.Names.{length}
use Rattle.serf_snapshot.proofs.LengthLaws.{worth-short}
use Rattle.serf_snapshot.proofs.lengths.is_worth_replacing.Goals as goal

pub returns-then-limit-kept-clause-short : goal.returns-then-limit-kept-clause-short
returns-then-limit-kept-clause-short c = λ new text long small below is. worth-short c.args.limit (length text) c.args.kept c.args.new_length (length new) is long small c.if-limit-kept.true

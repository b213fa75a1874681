use Rattle.serf_snapshot.proofs.PartLemmas.{first_line_some, first_line_none}
use Rattle.serf_snapshot.proofs.parts.first_line.Goals as goal

pub returns-in-Some-clause-line : goal.returns-in-Some-clause-line
returns-in-Some-clause-line c = first_line_some c.args.text.now c.split_once.result.0.now c.in-Some.rest.now (rw c.in-Some.is at c.split_once.ensures.parts)

pub returns-in-None-clause-line : goal.returns-in-None-clause-line
returns-in-None-clause-line c = first_line_none c.args.text.now c.split_once.result.0.now (rw c.in-None.is at c.split_once.ensures.parts)

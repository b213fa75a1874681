use Rattle.serf_snapshot.proofs.PartLemmas.{no_query}
use Rattle.serf_snapshot.proofs.kept_lines.query_of_text.Goals as goal

pub returns-in-Some-more : goal.returns-in-Some-more
returns-in-Some-more c =
    no_query c.args.text.now c.split_once.result.0.now c.split_once-2.result.0.now c.in-Some.rest.now c.in-Some-more.field-0.now
    (rw c.in-Some.is at c.split_once.ensures.parts) (rw c.in-Some-more.is at c.split_once-2.ensures.parts)

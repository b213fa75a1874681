use Rattle.serf_snapshot.proofs.PartLemmas.{no_event}
use Rattle.serf_snapshot.proofs.kept_lines.event_of_text.Goals as goal

pub returns-in-Some-more-2 : goal.returns-in-Some-more-2
returns-in-Some-more-2 c =
    no_event c.args.text.now c.split_once.result.0.now c.split_once-2.result.0.now c.split_once-3.result.0.now c.in-Some.rest.now c.in-Some-more.rest.now c.in-Some-more-2.field-0.now
    (rw c.in-Some.is at c.split_once.ensures.parts) (rw c.in-Some-more.is at c.split_once-2.ensures.parts) (rw c.in-Some-more-2.is at c.split_once-3.ensures.parts)

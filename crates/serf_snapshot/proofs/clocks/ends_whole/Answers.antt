use Rattle.serf_snapshot.proofs.ClockLaws.{is_whole-last}
use Rattle.serf_snapshot.proofs.clocks.ends_whole.Goals as goal

pub returns-in-Some : goal.returns-in-Some
returns-in-Some c = is_whole-last c.args.text.now c.in-Some.b.now c.in-Some.ensures.value

use Rattle.serf_schedule.proofs.TextNames.{All, take, IsBytes}
use Rattle.serf_schedule.proofs.sayable.know_all_bytes.Given as goal

abbrev pub invariant-loop-list : goal.invariant-loop-list
invariant-loop-list l = All IsBytes (take l.list-index l.lists)

use Rattle.serf_judge.proofs.Names.{get}
use Rattle.serf_judge.proofs.PairLaws.{Records}
use Rattle.serf_judge.proofs.once.first_pair.Given as goal

abbrev pub invariant-loop-place : goal.invariant-loop-place
invariant-loop-place g l = Records g.K.PartialEq.eq l.keys l.place (λ q. get g.K.PartialEq.eq l.places q)

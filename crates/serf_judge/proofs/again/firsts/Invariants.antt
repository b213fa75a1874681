use Rattle.serf_judge.proofs.Names.{false, take, contains, AreKept}
use Rattle.serf_judge.proofs.again.firsts.Given as goal

abbrev pub invariant-loop-key : goal.invariant-loop-key
invariant-loop-key g l = AreKept false g.K.PartialEq.eq (λ k. k) (take l.key-index l.keys) l.found.items (contains g.K.PartialEq.eq l.recorded)

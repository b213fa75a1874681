use Rattle.serf_explain.proofs.Names.{Some, ap, arith, ℕ}
use Rattle.serf_explain.proofs.verdict_reason.time_below.Goals as goal

pub returns-in-Some : goal.returns-in-Some
returns-in-Some c = λ below. ap (λ (t : ℕ). Some t) c.in-Some.ensures.1

pub returns-in-None : goal.returns-in-None
returns-in-None c = λ below. absurd (c.in-None.ensures (omega (arith, below)))

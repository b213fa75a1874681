use Rattle.serf_model.proofs.Effects.{representable-apply}
use Rattle.serf_model.proofs.InvariantKept.{text-has, text-past, unopened-sound}
use Rattle.serf_model.proofs.StartLaws.{representable-start}
use Rattle.serf_model.proofs.laws.representable_agents.Goals as goal

pub returns-clause-start : goal.returns-clause-start
returns-clause-start c = (representable-start c.laws_below.ensures)

pub returns-clause-apply : goal.returns-clause-apply
returns-clause-apply c = (representable-apply c.laws_below.ensures)

pub returns-clause-unopened : goal.returns-clause-unopened
returns-clause-unopened c = (unopened-sound c.laws_below.ensures)

pub returns-clause-text : goal.returns-clause-text
returns-clause-text c = λ m tail representable. (text-has c.laws_below.ensures) m.agent tail representable.consistent

pub returns-clause-past : goal.returns-clause-past
returns-clause-past c = λ m tail representable. (text-past c.laws_below.ensures) m.agent tail representable

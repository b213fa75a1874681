use Rattle.serf_write.proofs.Names.{[], ap, arith, length, ◌∙◌, ◌≡◌, common_steps, Written, sent_count}
use Rattle.serf_write.proofs.RunLaws.{none_sent, sent_is}
use Rattle.serf_write.proofs.writing.Writing.sent.Goals as goal

pub returns-in-Some : goal.returns-in-Some
returns-in-Some c =
    let run = rw c.in-Some.is at c.self.invariant.0 in
    ap length c.sent.ensures ∙ sent_is c.self.inside.agents c.self.inside.actions.items c.in-Some.world run
    ∙ ap (λ (w : Written). sent_count w.configs w.actions) c.self.view_is

pub returns-in-None : goal.returns-in-None
returns-in-None c =
    let none : c.self.inside.actions.items ≡ [] = grind (arith, common_steps) in
    none_sent c.self.inside.agents c.self.inside.actions.items none ∙ ap (λ (w : Written). sent_count w.configs w.actions) c.self.view_is

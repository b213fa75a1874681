use Rattle.serf_explain.proofs.Names.{OnOk, [], subst, sym, ◌++◌, ◌∷◌, on_ok_weaker, step, Action, IsViewed, HoldMarks}
use Rattle.serf_explain.proofs.MarkLaws.{held_acted, held_injected, held_nobody}
use Rattle.serf_explain.proofs.marks.AllMarks.record_turn.Goals as goal

pub returns-in-Inject : goal.returns-in-Inject
returns-in-Inject c = λ before d hold view count. rw c.in-Inject.is (held_injected _ c.args.number before d c.args.self.now hold count)

pub returns-in-Some : goal.returns-in-Some
returns-in-Some c = λ before d hold view count.
    let seen = subst (λ (x : Action). IsViewed (step d x).cluster c.args.world.now) c.in-Of.is view in
    subst (λ (x : Action). OnOk c.inspect.result (HoldMarks (before ++ d ∷ []) (step d x).cluster c.inspect.new.self)) (sym c.in-Of.is)
    (on_ok_weaker c.inspect.result (λ inspect. held_acted c.in-Of.actor c.args.number c.in-Of.act before d c.args.world.now c.in-Some.agent.now.concrete c.args.self.now c.inspect.new.self hold seen (sym c.in-Some.ensures) count inspect) c.inspect.ensures)

pub returns-in-None : goal.returns-in-None
returns-in-None c = λ before d hold view count.
    let seen = subst (λ (x : Action). IsViewed (step d x).cluster c.args.world.now) c.in-Of.is view in
    subst (λ (x : Action). HoldMarks (before ++ d ∷ []) (step d x).cluster c.args.self.now) (sym c.in-Of.is) (held_nobody c.in-Of.actor c.args.number c.in-Of.act before d c.args.world.now c.args.self.now hold seen (sym c.in-None.ensures) count)

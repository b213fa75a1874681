use Rattle.serf_write.proofs.Names.{All, List, [], rules, subst, sym, ◌++◌, ◌∷◌, ◌≡◌, All-push, Action, IsSayable, HasWorld}
use Rattle.serf_write.proofs.writing.Writing.act.Goals as goal

pub invariant_of-self-2 : goal.invariant_of-self-2
invariant_of-self-2 c =
    let before : List Action = c.self.inside.actions.items in
    let items : c.push.new.self.items ≡ before ++ c.args.action ∷ [] = c.in_ok-push.ensures.items in
    let done : HasWorld c.self.inside.agents (before ++ c.args.action ∷ []) c.in_ok-world.world =
    subst (λ (x : List Action). HasWorld c.self.inside.agents (x ++ c.args.action ∷ []) c.in_ok-world.world) c.as_slice.ensures.value c.in_ok-world.ensures.done in
    let sayable : IsSayable c.args.action = c.in_ok-world.ensures.sayable in
    let all : All IsSayable (before ++ c.args.action ∷ []) = All-push IsSayable before c.args.action c.self.invariant.1 sayable in (
      subst (λ (x : List Action). HasWorld c.self.inside.agents x c.in_ok-world.world) (sym items) done,
      subst (All IsSayable) (sym items) all,
    )

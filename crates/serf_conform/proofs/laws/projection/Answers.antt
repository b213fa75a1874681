use Rattle.serf_conform.proofs.Names.{List, [], ap, subst, sym, ◌∙◌, ◌≡◌, append-nil, IsAlone, run_of, trace_of, Turn, turns_by, turns_of, Action}
use Rattle.serf_conform.proofs.laws.projection.Goals as goal

pub returns : goal.returns
returns c = λ configs actions a config m sound is node.
    let shown : turns_of actions (trace_of (run_of configs actions)) ≡ (run_of configs actions).turns =
    sym (ap (λ (x : List Action). turns_of x (trace_of (run_of configs actions))) (append-nil actions)) ∙ c.turns_shown.ensures configs actions [] sound in
    subst (λ (ts : List Turn). IsAlone config a (turns_by a ts) m) (sym shown) (c.agents_alone.ensures configs actions a config m is node)

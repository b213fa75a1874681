-- A step of a cluster, with a case for each kind of actor.
use Rattle.serf_model.proofs.Names.{List, None, Option, Some, refl, ℕ, ◌≡◌, slice_get, Cluster, IdealNode, Stepped, applied, apply, injects, on_agent, step, Act, Action}
use Rattle.serf_model.specs.declared.action.Action.TheVariants as actions

-- no agent acts, or the agent that is to act doesn't exist, or it exists
pub step-cases : (P : Stepped → Type 0) (c : Cluster) (action : Action) → ((bytes : List ℕ) → P (injects c bytes))
    → ((b : ℕ) (act : Act) → slice_get c.nodes b ≡ None → P (on_agent c b act None))
    → ((b : ℕ) (act : Act) (m : IdealNode) → action ≡ actions.Of b act → slice_get c.nodes b ≡ Some m → P (applied c b act (apply m c.sent act))) → P (step c action)
step-cases P c (actions.Inject bytes) nobody missing acts = nobody bytes
step-cases P c (actions.Of b act) nobody missing acts = agent (slice_get c.nodes b) refl
  where
    agent : (r : Option IdealNode) → slice_get c.nodes b ≡ r → P (on_agent c b act r)
    agent None at = missing b act at
    agent (Some m) at = acts b act m refl at

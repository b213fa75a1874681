-- The model's agent in a world that has no other agent.
use Rattle.serf_conform.proofs.Names.{List, Some, [], ap, length, refl, subst, sym, ℕ, ◌++◌, ◌∙◌, ◌∷◌, ◌≡◌, fold_push, slice_get, Config, AgentCall, Alone, alone, calls_on, Applied, IdealNode, apply, first_node, step, with_handed, AreRepresentable, Act, Line, IsViewed, TakesStep, WorldState, node_of, DoesAs, IsSolo, solo_cluster}
use Rattle.std.specs.Prelude.{map}
use Rattle.serf_model.specs.declared.action.Action.TheVariants as actions

-- the packet that was sent last
last-sent : (sent : List (List ℕ)) (bytes : List ℕ) → slice_get (sent ++ bytes ∷ []) (length sent) ≡ Some bytes
last-sent [] bytes = refl
last-sent (x ∷ xs) bytes = last-sent xs bytes

-- one more call
node-push : (config : Config) (made : List AgentCall) (call : AgentCall)
    → (alone config (made ++ call ∷ [])).node ≡ (calls_on (alone config made) call).node
node-push config made call = ap (λ (s : Alone). s.node) (fold_push calls_on (record { node = first_node config; came = [] }) made call)

-- The world stores the state of a cluster that has only this agent.
pub solo_of : (config : Config) (made : List AgentCall) (m : IdealNode) (sent : List (List ℕ)) (w : WorldState) → m ≡ (alone config made).node
    → IsViewed (record { nodes = m ∷ []; sent = sent }) w → AreRepresentable (record { nodes = m ∷ []; sent = sent }) → IsSolo config made w
solo_of config made m sent w is view ready =
    record {
      view = record { nodes = subst (λ (n : IdealNode). map node_of (n ∷ []) ≡ w.nodes) is view.nodes; sent = refl };
      representable = subst (λ (n : IdealNode). AreRepresentable (record { nodes = n ∷ []; sent = w.sent })) is ready;
    }

-- after a packet was sent
pub sent_on : (config : Config) (made : List AgentCall) (w w' : WorldState) (bytes : List ℕ) (line : Line)
    → TakesStep (step (solo_cluster config made w) (actions.Inject bytes)) w' line → IsSolo config made w'
sent_on config made w w' bytes line taken = solo_of config made (alone config made).node (w.sent ++ bytes ∷ []) w' refl taken.view taken.representable

pub sent_at : (config : Config) (made : List AgentCall) (w w' : WorldState) (bytes : List ℕ) (line : Line) (k : ℕ)
    → TakesStep (step (solo_cluster config made w) (actions.Inject bytes)) w' line → k ≡ length w.sent → slice_get w'.sent k ≡ Some bytes
sent_at config made w w' bytes line k taken is =
    ap (λ (s : List (List ℕ)). slice_get s k) (sym taken.view.sent) ∙ (ap (slice_get (w.sent ++ bytes ∷ [])) is ∙ last-sent w.sent bytes)

-- after the agent acted
pub acted_on : (config : Config) (made : List AgentCall) (call : AgentCall) (w w' : WorldState) (act : Act) (line : Line) → DoesAs w.sent act call
    → TakesStep (step (solo_cluster config made w) (actions.Of 0 act)) w' line → IsSolo config (made ++ call ∷ []) w'
acted_on config made call w w' act line does taken =
    let m : IdealNode = (alone config made).node in
    let o : Applied = apply m w.sent act in
    let same : with_handed o.done.handed o.node ≡ (alone config (made ++ call ∷ [])).node =
    ap (λ (x : Applied). with_handed x.done.handed x.node) (does m) ∙ sym (node-push config made call) in
    solo_of config (made ++ call ∷ []) (with_handed o.done.handed o.node) (w.sent ++ o.done.packets) w' same taken.view taken.representable

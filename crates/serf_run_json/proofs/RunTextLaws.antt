-- The text that one more action adds.
use Rattle.std.proofs.Common.{List, [], ap, append_assoc, arith, length, refl, sym, ℕ, ◌++◌, ◌+◌, ◌∙◌, ◌∷◌, ◌≡◌}
use Rattle.std.specs.Prelude.{map}
use Rattle.std.proofs.lemmas.List.{append-nil}
use Rattle.std.specs.List.{fold}
use Rattle.serf_agent.specs.declared.config.Config.{Config}
use Rattle.serf_model.specs.declared.action.Action.{Action}
use Rattle.serf_model.specs.declared.line.Line.{Line}
use Rattle.serf_model.specs.Cluster.{Cluster, IdealNode, Run, Stepped, after, run_of, start, step}
use Rattle.serf_world.specs.View.{IsViewed, NodeState, TakesStep, WorldState, node_of}
use Rattle.serf_run_json.specs.Members.{settings_of}
use Rattle.serf_run_json.specs.Members.{settings_in}
use Rattle.serf_run_json.specs.Readable.{action_text, actions_text, tells_run}

-- the lines of an action that was done in a cluster
abbrev turn_text : Stepped → ℕ → Action → List ℕ
turn_text s n action = action_text (settings_in s.cluster) s.cluster.sent n action s.turn.line

actions-push : (r : Run) (n : ℕ) (done : List Action) (action : Action) → actions_text r.cluster n (done ++ action ∷ []) ≡ actions_text r.cluster n done ++ turn_text (step (fold after r done).cluster action) (n + length done) action
actions-push r n [] action =
    let here : n ≡ n + 0 = omega arith in
    append-nil (turn_text (step r.cluster action) n action) ∙ ap (λ m. turn_text (step r.cluster action) m action) here
actions-push r n (x ∷ xs) action =
    let place : n + 1 + length xs ≡ n + length (x ∷ xs) = omega arith in
    ap (λ t. turn_text (step r.cluster x) n x ++ t) (actions-push (after r x) (n + 1) xs action
    ∙ ap (λ m. actions_text (step r.cluster x).cluster (n + 1) xs ++ turn_text (step (fold after (after r x) xs).cluster action) m action) place)
    ∙ sym (append_assoc (turn_text (step r.cluster x) n x) (actions_text (step r.cluster x).cluster (n + 1) xs) (turn_text (step (fold after (after r x) xs).cluster action) (n + length (x ∷ xs)) action))

-- a world has the settings of the agents of the cluster that it stores
settings-nodes : (nodes : List IdealNode) → map (λ (m : IdealNode). m.agent.config) nodes ≡ map (λ (s : NodeState). s.concrete.config) (map node_of nodes)
settings-nodes [] = refl
settings-nodes (m ∷ ms) = ap (λ (cs : List Config). m.agent.config ∷ cs) (settings-nodes ms)

settings-viewed : (c : Cluster) (w : WorldState) → IsViewed c w → settings_in c ≡ settings_of w
settings-viewed c w view = settings-nodes c.nodes ∙ ap (λ (ns : List NodeState). map (λ (s : NodeState). s.concrete.config) ns) view.nodes

pub tells-more : (configs : List Config) (done : List Action) (action : Action) (w : WorldState) (line : Line) (number : ℕ) (old : List ℕ) → tells_run configs done old → TakesStep (step (run_of configs done).cluster action) w line → number ≡ length done + 1
    → tells_run configs (done ++ action ∷ []) (old ++ action_text (settings_of w) w.sent number action line)
tells-more configs done action w line number old told took counted =
    let s : Stepped = step (run_of configs done).cluster action in
    let place : number ≡ 1 + length done = omega (arith, counted) in
    ap (λ (cs : List Config). old ++ action_text cs w.sent number action line) (sym (settings-viewed s.cluster w took.view))
    ∙ ap (λ (sent : List (List ℕ)). old ++ action_text (settings_in s.cluster) sent number action line) (sym took.view.sent)
    ∙ ap (λ n. old ++ action_text (settings_in s.cluster) s.cluster.sent n action line) place
    ∙ ap (λ (l : Line). old ++ action_text (settings_in s.cluster) s.cluster.sent (1 + length done) action l) took.line_is
    ∙ ap (λ t. t ++ turn_text s (1 + length done) action) told
    ∙ sym (actions-push (start configs) 1 done action)

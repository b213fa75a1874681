-- What a world has done is a run: its lines show the turns of the run, and the run keeps all promises.
use Rattle.serf_world.proofs.Names.{List, Some, [], ap, inr, map, refl, subst, suc, sym, zero, ℕ, ◌++◌, ◌∙◌, ◌∷◌, ◌≡◌, append-nil, map-append, All-nil, All-push, fold_push, option_map, All, slice_get, ConcreteState, view_of, Config, OpenQuery, HoldsCounted, HoldsSent, Cluster, IdealNode, Run, after, run_of, start, step, trace_of, AreRepresentable, AreConfigs, HasSizes, BringsTold, Turn, turns_of, Action, Line, HasDone, IsViewed, NodeState, StoresOpen, TakesStep, WorldState, node_of}
use Rattle.serf_world.proofs.ResultLaws.{AreKept, AreShown}

-- each agent that is stored is the view of an agent of the cluster
stored-agent : (nodes : List IdealNode) (a : ℕ) (s : ConcreteState) → option_map (λ (n : NodeState). n.concrete) (slice_get (map node_of nodes) a) ≡ Some s → (m : IdealNode) × (slice_get nodes a ≡ Some m) × (view_of m.agent ≡ s)
stored-agent [] a s is = absurd (cc is)
stored-agent (m ∷ ms) zero s is = let same : view_of m.agent ≡ s = cc is in (m, refl, same)
stored-agent (m ∷ ms) (suc a) s is = stored-agent ms a s is

-- what holds of each open query of the cluster holds of each open query that is stored
stored-open : (P : ℕ → ℕ × OpenQuery → Type 0) (c : Cluster) (w : WorldState) → IsViewed c w → ((a : ℕ) (m : IdealNode) → slice_get c.nodes a ≡ Some m → All (P a) m.agent.fired_queries) → StoresOpen P w
stored-open P c w view held a s at =
    let found = stored-agent c.nodes a s (ap (λ (ns : List NodeState). option_map (λ (n : NodeState). n.concrete) (slice_get ns a)) view.nodes ∙ at) in
    subst (λ (c : ConcreteState). All (P a) c.fired_queries) found.2 (held a found.0 found.1)

done-of-run : AreShown → AreKept → (configs : List Config) (actions : List Action) (lines : List Line) (w : WorldState) → AreConfigs configs → All HasSizes actions → All BringsTold actions
    → IsViewed (run_of configs actions).cluster w → AreRepresentable (run_of configs actions).cluster → lines ≡ map (λ t. t.line) (run_of configs actions).turns → HasDone configs actions lines w
done-of-run shown kept configs actions lines w ok sized told view representable are =
    let r : Run = run_of configs actions in
    let outcome : record { lines = lines; sent = w.sent } ≡ trace_of r = λ k. record { lines = are k; sent = sym view.sent k } in
    record {
      settings = ok;
      sizes = sized;
      told = told;
      view = view;
      representable = representable;
      lines_are = are;
      turns = ap (turns_of actions) outcome ∙ ap (λ l. turns_of l (trace_of r)) (sym (append-nil actions)) ∙ shown configs actions [] ok;
      promises = kept configs actions ok (inr told) sized;
      open_queries = stored-open (λ a. HoldsCounted a r.turns) r.cluster w view (kept configs actions ok (inr told) sized).open_queries;
      open_queries_sent = stored-open (λ a. HoldsSent r.turns) r.cluster w view (kept configs actions ok (inr told) sized).open_queries_sent;
    }

pub done-nothing : AreShown → AreKept → (configs : List Config) (w : WorldState) → AreConfigs configs → IsViewed (start configs).cluster w → AreRepresentable (start configs).cluster → HasDone configs [] [] w
done-nothing shown kept configs w ok view representable = done-of-run shown kept configs [] [] w ok (All-nil HasSizes) (All-nil BringsTold) view representable refl

pub done-next : AreShown → AreKept → (configs : List Config) (actions : List Action) (lines : List Line) (old new : WorldState) (action : Action) (line : Line)
    → HasDone configs actions lines old → HasSizes action → BringsTold action → TakesStep (step (run_of configs actions).cluster action) new line → HasDone configs (actions ++ action ∷ []) (lines ++ line ∷ []) new
done-next shown kept configs actions lines old new action line h has tells took =
    let r : Run = run_of configs actions in
    let next : after r action ≡ run_of configs (actions ++ action ∷ []) = sym (fold_push after (start configs) actions action) in
    done-of-run shown kept configs (actions ++ action ∷ []) (lines ++ line ∷ []) new h.settings (All-push HasSizes actions action h.sizes has) (All-push BringsTold actions action h.told tells)
    (subst (λ (r : Run). IsViewed r.cluster new) next took.view)
    (subst (λ (r : Run). AreRepresentable r.cluster) next took.representable)
    (ap (λ l. l ++ line ∷ []) h.lines_are ∙ ap (λ x. map (λ (t : Turn). t.line) r.turns ++ x ∷ []) took.line_is ∙ sym (map-append (λ (t : Turn). t.line) r.turns ((step r.cluster action).turn ∷ [])) ∙ ap (λ (r : Run). map (λ t. t.line) r.turns) next)

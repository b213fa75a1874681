-- The objects of a run, one action after another.
use Rattle.serf_run_json.proofs.Names.{Bool, Err, List, codes, ◌==◌, flat_map-append, node_of, Ok, OnOk, Result, [], ap, append-nil, append_assoc, arith, false, length, refl, subst, sym, true, ℕ, ◌++◌, ◌+◌, ◌∙◌, ◌∷◌, ◌≡◌, flat_map, fold, if◌then◌else◌, map, Config, Action, Cluster, Run, after, run_of, start, step, actor_of, Line, IsViewed, NodeState, TakesStep, WorldState, is_shown, Range, object_text, AddsExplanation, AddsObjects, Explanation, TellsFrom, TellsObjects, agents_text, explanation_text, no_explanation, results_text, settings_in, settings_of, turn_text}
use Rattle.serf_model.specs.Cluster.{IdealNode}

-- one object was appended
pub one-added : {R E : Type 0} (r : Result R E) (kind old new members : List ℕ) → OnOk r (new ≡ old ++ object_text kind members) → OnOk r (AddsObjects kind old new)
one-added (Ok x) kind old new members is = record { members = members ∷ []; added = is ∙ ap (λ t. old ++ t) (sym (append-nil (object_text kind members))) }
one-added (Err e) kind old new members is = tt

-- none was
pub none-added : (kind old : List ℕ) → AddsObjects kind old old
none-added kind old = record { members = []; added = sym (append-nil old) }

-- more were appended
pub more-added : (kind a b d : List ℕ) → AddsObjects kind a b → AddsObjects kind b d → AddsObjects kind a d
more-added kind a b d h k = record {
  members = h.members ++ k.members;
  added = k.added ∙ ap (λ t. t ++ flat_map (object_text kind) k.members) h.added
      ∙ append_assoc a (flat_map (object_text kind) h.members) (flat_map (object_text kind) k.members)
      ∙ ap (λ t. a ++ t) (sym (flat_map-append (object_text kind) h.members k.members));
}

-- the reasons and the state of an action
pub explained : (a b d : List ℕ) → AddsObjects (codes "reason") a b → AddsObjects (codes "state") b d → AddsExplanation true a d
explained a b d h k = record {
  explanation = record { reasons = h.members; states = k.members };
  added = k.added ∙ ap (λ t. t ++ flat_map (object_text (codes "state")) k.members) h.added
      ∙ append_assoc a (flat_map (object_text (codes "reason")) h.members) (flat_map (object_text (codes "state")) k.members);
}

-- an action that isn't shown
pub not-explained : (a : List ℕ) → AddsExplanation false a a
not-explained a = record { explanation = no_explanation; added = sym (append-nil a) }

-- the settings that the world has of a cluster's agents
pub settings-same : (c : Cluster) (w : WorldState) → IsViewed c w → settings_of w ≡ settings_in c
settings-same c w view = ap (λ (ns : List NodeState). map (λ (s : NodeState). s.concrete.config) ns) (sym view.nodes) ∙ by c.nodes
  where
    by : (ns : List IdealNode) → map (λ (s : NodeState). s.concrete.config) (map node_of ns) ≡ map (λ (m : IdealNode). m.agent.config) ns
    by [] = refl
    by (n ∷ ns) = ap (λ t. n.agent.config ∷ t) (by ns)

-- one more action
pub tells-push : (range : Range) (explains : Bool) (n : ℕ) (r : Run) (done : List Action) (action : Action) (text : List ℕ) (e : Explanation) → TellsFrom range explains n r.cluster done text → (explains ≡ false → e ≡ no_explanation)
    → TellsFrom range explains n r.cluster (done ++ action ∷ []) (text ++ turn_text range (n + length done) (settings_in (step (fold after r done).cluster action).cluster) (step (fold after r done).cluster action).cluster.sent action (step (fold after r done).cluster action).turn.line e)
tells-push range explains n r [] action text e told none = (
  e,
  [],
  none,
  ap (λ t. t ++ turn_text range (n + 0) (settings_in (step r.cluster action).cluster) (step r.cluster action).cluster.sent action (step r.cluster action).turn.line e) told
      ∙ ap (λ m. turn_text range m (settings_in (step r.cluster action).cluster) (step r.cluster action).cluster.sent action (step r.cluster action).turn.line e) (let same : n + 0 ≡ n = omega arith in same)
      ∙ sym (append-nil (turn_text range n (settings_in (step r.cluster action).cluster) (step r.cluster action).cluster.sent action (step r.cluster action).turn.line e)),
  refl,
)
tells-push range explains n r (a ∷ later_on) action text e told none =
    let last : Cluster = (fold after (after r a) later_on).cluster in
    let more : ℕ → List ℕ = λ m. turn_text range m (settings_in (step last action).cluster) (step last action).cluster.sent action (step last action).turn.line e in
    let later : n + 1 + length later_on ≡ n + length (a ∷ later_on) = omega arith in (
      told.0,
      told.1 ++ more (n + length (a ∷ later_on)),
      told.2,
      ap (λ t. t ++ more (n + length (a ∷ later_on))) told.3
          ∙ append_assoc (turn_text range n (settings_in (step r.cluster a).cluster) (step r.cluster a).cluster.sent a (step r.cluster a).turn.line told.0) told.1 (more (n + length (a ∷ later_on))),
      subst (λ m. TellsFrom range explains (n + 1) (step r.cluster a).cluster (later_on ++ action ∷ []) (told.1 ++ more m)) later
          (tells-push range explains (n + 1) (after r a) later_on action told.1 e told.4 none),
    )

-- what the parts of a turn add to a text
pub turn-added : (range : Range) (n : ℕ) (settings : List Config) (sent : List (List ℕ)) (action : Action) (line : Line) (e : Explanation) (front old a b new : List ℕ)
    → a ≡ old ++ (if n == 1 then agents_text 0 settings else [])
    → b ≡ a ++ (if is_shown range n (actor_of action) then results_text settings sent n action line else [])
    → new ≡ b ++ (if is_shown range n (actor_of action) then explanation_text e else [])
    → front ++ new ≡ (front ++ old) ++ turn_text range n settings sent action line e
turn-added range n settings sent action line e front old a b new first results after =
    let x : List ℕ = if n == 1 then agents_text 0 settings else [] in
    ap (λ t. front ++ t) (after ∙ ap (λ t. t ++ (if is_shown range n (actor_of action) then explanation_text e else [])) (results ∙ ap (λ t. t ++ (if is_shown range n (actor_of action) then results_text settings sent n action line else [])) first)
    ∙ both (is_shown range n (actor_of action)) (old ++ x) (results_text settings sent n action line) (explanation_text e)
    ∙ append_assoc old x (if is_shown range n (actor_of action) then results_text settings sent n action line ++ explanation_text e else []))
    ∙ sym (append_assoc front old (x ++ (if is_shown range n (actor_of action) then results_text settings sent n action line ++ explanation_text e else [])))
  where
    both : (s : Bool) (t u v : List ℕ) → (t ++ (if s then u else [])) ++ (if s then v else []) ≡ t ++ (if s then u ++ v else [])
    both true t u v = append_assoc t u v
    both false t u v = append-nil (t ++ [])

-- one more action of a run, from what the world shows after it
pub told-next : (range : Range) (explains : Bool) (configs : List Config) (done : List Action) (action : Action) (w : WorldState) (line : Line) (n : ℕ) (e : Explanation) (front old a b new : List ℕ)
    → TellsObjects range explains configs done (front ++ old) → TakesStep (step (run_of configs done).cluster action) w line → n ≡ length done + 1 → (explains ≡ false → e ≡ no_explanation)
    → a ≡ old ++ (if n == 1 then agents_text 0 (settings_of w) else [])
    → b ≡ a ++ (if is_shown range n (actor_of action) then results_text (settings_of w) w.sent n action line else [])
    → new ≡ b ++ (if is_shown range n (actor_of action) then explanation_text e else [])
    → TellsObjects range explains configs (done ++ action ∷ []) (front ++ new)
told-next range explains configs done action w line n e front old a b new told takes counted none first results after =
    let s = step (run_of configs done).cluster action in
    let number : n ≡ 1 + length done = omega (arith, counted) in
    subst (λ t. TellsObjects range explains configs (done ++ action ∷ []) t)
    (sym (turn-added range n (settings_of w) w.sent action line e front old a b new first results after
    ∙ ap (λ m. (front ++ old) ++ turn_text range m (settings_of w) w.sent action line e) number
    ∙ ap (λ k. (front ++ old) ++ turn_text range (1 + length done) k w.sent action line e) (settings-same s.cluster w takes.view)
    ∙ ap (λ k. (front ++ old) ++ turn_text range (1 + length done) (settings_in s.cluster) k action line e) (sym takes.view.sent)
    ∙ ap (λ k. (front ++ old) ++ turn_text range (1 + length done) (settings_in s.cluster) s.cluster.sent action k e) takes.line_is))
    (tells-push range explains 1 (start configs) done action (front ++ old) e told none)

-- without reasons, nothing follows the results
none-after : (s : Bool) (b : List ℕ) → b ≡ b ++ (if s then explanation_text no_explanation else [])
none-after true b = sym (append-nil b)
none-after false b = sym (append-nil b)

pub told-plain : (range : Range) (explains : Bool) (configs : List Config) (done : List Action) (action : Action) (w : WorldState) (line : Line) (n : ℕ) (front old a b : List ℕ)
    → TellsObjects range explains configs done (front ++ old) → TakesStep (step (run_of configs done).cluster action) w line → n ≡ length done + 1
    → a ≡ old ++ (if n == 1 then agents_text 0 (settings_of w) else [])
    → b ≡ a ++ (if is_shown range n (actor_of action) then results_text (settings_of w) w.sent n action line else [])
    → TellsObjects range explains configs (done ++ action ∷ []) (front ++ b)
told-plain range explains configs done action w line n front old a b told takes counted first results =
    told-next range explains configs done action w line n no_explanation front old a b b told takes counted (λ _. refl) first results (none-after (is_shown range n (actor_of action)) b)

-- a teller that explains has no option that says otherwise
pub explains-only : (option explains : Bool) (e : Explanation) → explains ≡ true → explains ≡ option → option ≡ false → e ≡ no_explanation
explains-only option explains e is_on same is_off = absurd (cc (is_on, same, is_off))

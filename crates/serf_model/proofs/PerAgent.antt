-- What holds of each agent, if these are the turns that it took.
use Rattle.serf_model.proofs.Names.{Bool, List, None, Some, [], ap, cond, false, map, refl, set, subst, suc, sym, true, zero, ℕ, ◌++◌, ◌==◌, ◌∙◌, ◌∷◌, ◌≡◌, eq-eqb, eqb-false, eqb-true, ne_eqb, append-nil, All-nil, All-push, Contains-append_left, filter-append, flat_map, All, Contains, slice_get, Config, Applied, Cluster, IdealNode, Run, Stepped, after, applied, apply, first_node, injects, on_agent, start, with_handed, Turn, actor_of, is_agent, turns_by, Act, Action, Of, NoAgent}
use Rattle.serf_model.specs.declared.line.Answer.TheVariants as answers
use Rattle.serf_model.proofs.StepCases.{step-cases}
use Rattle.serf_model.proofs.RunLaws.{added, by-push, slice_get-set_same, slice_get-set_other}
use Rattle.serf_model.proofs.TurnLaws.{in-now}

pub turns-mine : (a : ℕ) (turns : List Turn) (turn : Turn) → is_agent a (actor_of turn.action) ≡ true → turns_by a (turns ++ turn ∷ []) ≡ turns_by a turns ++ turn ∷ []
turns-mine a turns turn mine = filter-append (λ (t : Turn). is_agent a (actor_of t.action)) turns (turn ∷ []) ∙ ap (λ b. turns_by a turns ++ cond b (turn ∷ []) []) mine

pub turns-other : (a : ℕ) (turns : List Turn) (turn : Turn) → is_agent a (actor_of turn.action) ≡ false → turns_by a (turns ++ turn ∷ []) ≡ turns_by a turns
turns-other a turns turn other = filter-append (λ (t : Turn). is_agent a (actor_of t.action)) turns (turn ∷ []) ∙ ap (λ b. turns_by a turns ++ cond b (turn ∷ []) []) other ∙ append-nil (turns_by a turns)

-- what was in an agent's turns is still there after one more turn, and so is what that turn adds if it is the agent's
-- own
pub by-more : {X : Type 0} (f : Turn → List X) (a : ℕ) (turns : List Turn) (turn : Turn) (x : X) → Contains (flat_map f (turns_by a turns)) x → Contains (flat_map f (turns_by a (turns ++ turn ∷ []))) x
by-more {X} f a turns turn x h = subst (λ (l : List X). Contains l x) (sym (by-push f a turns turn)) (Contains-append_left (flat_map f (turns_by a turns)) (added f a turn) x h)

pub by-now : {X : Type 0} (f : Turn → List X) (a : ℕ) (turns : List Turn) (turn : Turn) (x : X) → is_agent a (actor_of turn.action) ≡ true → Contains (f turn) x → Contains (flat_map f (turns_by a (turns ++ turn ∷ []))) x
by-now f a turns turn x mine h = subst (λ (ts : List Turn). Contains (flat_map f ts) x) (sym (turns-mine a turns turn mine)) (in-now f (turns_by a turns) turn x h)

-- ---- each agent, and the turns of a run

-- this holds of each agent, if these are the turns of the run
abbrev pub EachIn : (ℕ → List Turn → IdealNode → Type 0) → Cluster → List Turn → Type 0
EachIn P c turns = (a : ℕ) (m : IdealNode) → slice_get c.nodes a ≡ Some m → P a turns m

-- a turn of another agent preserves it
abbrev pub StaysBeside : (ℕ → List Turn → IdealNode → Type 0) → Type 0
StaysBeside P = (a : ℕ) (turns : List Turn) (turn : Turn) (m : IdealNode) → is_agent a (actor_of turn.action) ≡ false → P a turns m → P a (turns ++ turn ∷ []) m

each_in-applied : (P : ℕ → List Turn → IdealNode → Type 0) (c : Cluster) (turns : List Turn) (b : ℕ) (act : Act) (m : IdealNode) (o : Applied) → StaysBeside P → EachIn P c turns → slice_get c.nodes b ≡ Some m
    → P b (turns ++ (applied c b act o).turn ∷ []) (with_handed o.done.handed o.node) → EachIn P (applied c b act o).cluster (turns ++ (applied c b act o).turn ∷ [])
each_in-applied P c turns b act m o beside all at new a n is = by (b == a) refl
  where
    by : (t : Bool) → (b == a) ≡ t → P a (turns ++ (applied c b act o).turn ∷ []) n
    by true t =
        let same : b ≡ a = eqb-true b a t in
        let found : slice_get (set c.nodes b (with_handed o.done.handed o.node)) b ≡ Some (with_handed o.done.handed o.node) = slice_get-set_same c.nodes b m (with_handed o.done.handed o.node) at in
        let both : Some (with_handed o.done.handed o.node) ≡ Some n = sym found ∙ ap (slice_get (set c.nodes b (with_handed o.done.handed o.node))) same ∙ is in
        let here : with_handed o.done.handed o.node ≡ n = cc both in
        subst (λ (j : ℕ). P j (turns ++ (applied c b act o).turn ∷ []) n) same (subst (P b (turns ++ (applied c b act o).turn ∷ [])) here new)
    by false t = beside a turns (applied c b act o).turn n t (all a n (sym (slice_get-set_other c.nodes b a (with_handed o.done.handed o.node) (eqb-false b a t)) ∙ is))

pub each_in-step : (P : ℕ → List Turn → IdealNode → Type 0) (r : Run) (action : Action) → StaysBeside P → EachIn P r.cluster r.turns
    → ((b : ℕ) (act : Act) (m : IdealNode) → action ≡ Of b act → slice_get r.cluster.nodes b ≡ Some m → P b r.turns m → (let o = apply m r.cluster.sent act in P b (r.turns ++ (applied r.cluster b act o).turn ∷ []) (with_handed o.done.handed o.node)))
    → EachIn P (after r action).cluster (after r action).turns
each_in-step P r action beside all keeps =
    let c : Cluster = r.cluster in
    step-cases (λ s. EachIn P s.cluster (r.turns ++ s.turn ∷ [])) c action (λ bytes a m is. beside a r.turns (injects c bytes).turn m refl (all a m is))
    (λ b act at a m is. beside a r.turns (on_agent c b act None).turn m (ne_eqb b a (λ e. let no : None ≡ Some m = sym at ∙ ap (slice_get c.nodes) e ∙ is in cc)) (all a m is))
    (λ b act m is at. each_in-applied P c r.turns b act m (apply m c.sent act) beside all at (keeps b act m is at (all b m at)))

-- ---- each agent, and its own turns

-- this holds of each agent, together with its own turns
abbrev pub Each : (ℕ → List Turn → IdealNode → Type 0) → Cluster → List Turn → Type 0
Each P c turns = EachIn (λ a turns m. P a (turns_by a turns) m) c turns

-- what a turn of an agent has to preserve
abbrev pub Keeps : (ℕ → List Turn → IdealNode → Type 0) → Cluster → List Turn → Action → Type 0
Keeps P c turns action = (b : ℕ) (act : Act) (m : IdealNode) → action ≡ Of b act → slice_get c.nodes b ≡ Some m → P b (turns_by b turns) m
    → (let o = apply m c.sent act in P b (turns_by b turns ++ (applied c b act o).turn ∷ []) (with_handed o.done.handed o.node))

pub each-step : (P : ℕ → List Turn → IdealNode → Type 0) (r : Run) (action : Action) → Each P r.cluster r.turns → Keeps P r.cluster r.turns action → Each P (after r action).cluster (after r action).turns
each-step P r action all keeps =
    each_in-step (λ a turns m. P a (turns_by a turns) m) r action (λ a turns turn m other h. subst (λ l. P a l m) (sym (turns-other a turns turn other)) h) all
    (λ b act m is at h. let o : Applied = apply m r.cluster.sent act in
    subst (λ l. P b l (with_handed o.done.handed o.node)) (sym (turns-mine b r.turns (applied r.cluster b act o).turn (eq-eqb b b refl))) (keeps b act m is at h))

pub joined-at : (configs : List Config) (a : ℕ) (m : IdealNode) → slice_get (map first_node configs) a ≡ Some m → (config : Config) × (slice_get configs a ≡ Some config) × (first_node config ≡ m)
joined-at [] a m is = absurd (cc is)
joined-at (c ∷ cs) zero m is = let same : first_node c ≡ m = cc is in (c, refl, same)
joined-at (c ∷ cs) (suc a) m is = joined-at cs a m is

pub each-start : (P : ℕ → List Turn → IdealNode → Type 0) (configs : List Config) → ((a : ℕ) (config : Config) → slice_get configs a ≡ Some config → P a [] (first_node config)) → Each P (start configs).cluster []
each-start P configs first a m is = let j = joined-at configs a m is in subst (P a []) j.2 (first a j.0 j.1)

-- ---- agents that don't exist

-- an action of an agent that doesn't exist is refused
pub record IsRefused (t : Turn) : Type 0 where
  pub answer : t.line.answer ≡ answers.Refused NoAgent
  pub packets : t.packets ≡ []

abbrev pub AreNobodys : Cluster → List Turn → Type 0
AreNobodys c turns = (a : ℕ) → slice_get c.nodes a ≡ None → All IsRefused (turns_by a turns)

nobodys-still : (c : Cluster) (turns : List Turn) (s : Stepped) → AreNobodys c turns → s.cluster.nodes ≡ c.nodes → IsRefused s.turn → AreNobodys s.cluster (turns ++ s.turn ∷ [])
nobodys-still c turns s all nodes refused a none = by (is_agent a (actor_of s.turn.action)) refl
  where
    before : All IsRefused (turns_by a turns)
    before = all a (ap (λ l. slice_get l a) (sym nodes) ∙ none)

    by : (b : Bool) → is_agent a (actor_of s.turn.action) ≡ b → All IsRefused (turns_by a (turns ++ s.turn ∷ []))
    by true mine = subst (All IsRefused) (sym (turns-mine a turns s.turn mine)) (All-push IsRefused (turns_by a turns) s.turn before refused)
    by false other = subst (All IsRefused) (sym (turns-other a turns s.turn other)) before

nobodys-applied : (c : Cluster) (turns : List Turn) (b : ℕ) (act : Act) (m : IdealNode) (o : Applied) → AreNobodys c turns → slice_get c.nodes b ≡ Some m → AreNobodys (applied c b act o).cluster (turns ++ (applied c b act o).turn ∷ [])
nobodys-applied c turns b act m o all at a none = by (b == a) refl
  where
    by : (t : Bool) → (b == a) ≡ t → All IsRefused (turns_by a (turns ++ (applied c b act o).turn ∷ []))
    by true t =
        let found = slice_get-set_same c.nodes b m (with_handed o.done.handed o.node) at in
        let no : Some (with_handed o.done.handed o.node) ≡ None = sym found ∙ ap (slice_get (set c.nodes b (with_handed o.done.handed o.node))) (eqb-true b a t) ∙ none in
        absurd (cc no)
    by false t =
        subst (All IsRefused) (sym (turns-other a turns (applied c b act o).turn t))
        (all a (sym (slice_get-set_other c.nodes b a (with_handed o.done.handed o.node) (eqb-false b a t)) ∙ none))

pub nobodys-step : (r : Run) (action : Action) → AreNobodys r.cluster r.turns → AreNobodys (after r action).cluster (after r action).turns
nobodys-step r action all =
    let c : Cluster = r.cluster in
    step-cases (λ s. AreNobodys s.cluster (r.turns ++ s.turn ∷ [])) c action
    (λ bytes a none. subst (All IsRefused) (sym (turns-other a r.turns (injects c bytes).turn refl)) (all a none))
    (λ b act at. nobodys-still c r.turns (on_agent c b act None) all refl (record { answer = refl; packets = refl })) (λ b act m is at. nobodys-applied c r.turns b act m (apply m c.sent act) all at)

pub nobodys-start : (configs : List Config) → AreNobodys (start configs).cluster []
nobodys-start configs a none = All-nil IsRefused

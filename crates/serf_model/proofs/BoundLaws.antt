-- The settings of an agent bound what enters at it in one life, in every run.
use Rattle.serf_model.proofs.Names.{Bool, List, None, Option, Some, [], ap, append_assoc, arith, cond, false, get_or, inl, inr, length, map, refl, set, subst, suc, sym, true, zero, ℕ, ◌%◌, ◌&&◌, ◌*◌, ◌++◌, ◌+◌, ◌==◌, ◌∙◌, ◌∷◌, ◌≡◌, ◌≤◌, cases_Bool, eq-eqb, eqb-false, eqb-true, append-nil, All-cons, All-filter, All-map, All-nil, All-tail, fold-append, filter, range_with_len, option_map, All, slice_get, EventBody, SlotLaws, EachAtMost, SlotOf, TimedEntry, count_at, entries_of, largest_time, held_at, held_count, slot_of, slots_of, max_text_bytes, IdealAgent, Past, of_life, Config, Below, AreEventsBounded, AreWindowsBounded, AtMostOfOneTime, EventsBounded, IsBounded, QueriesBounded, WindowsBounded, events_of_life, is_restarted, lived_on, present_life, queries_of_life, reopens, Applied, Cluster, IdealNode, Run, Stepped, after, applied, apply, first_node, injects, on_agent, opened_first, run_of, start, step, with_handed, IsRepresentable, AreConfigs, CanTell, Turn, actor_of, entered_by, event_in, events_to, given_by, is_agent, queries_at, Act, Action, Of, EventLine}
use Rattle.serf_model.proofs.HistoryGrowth.{Keeps, keeps-apply}
use Rattle.serf_model.proofs.InvariantKept.{first-events, first-queries}
use Rattle.serf_model.proofs.PerTimeBound.{Enters, enters-life}
use Rattle.serf_model.proofs.RunLaws.{CanTellIt, IsAfter, tell-each, added, after-step, all-at, by-push, events_to-push, lines-other, lines-same, slice_get-set_other, slice_get-set_same}
use Rattle.serf_model.proofs.StepCases.{step-cases}
use Rattle.serf_model.proofs.StartLaws.{after-start}
use Rattle.serf_model.proofs.TurnLaws.{at_each_nil, at_each_push, fold_keeps_at}

-- ---- what a window holds

filter-held : {K : Type 0} (t : ℕ) (test : TimedEntry K → Bool) (es : List (TimedEntry K)) → length (held_at t (filter test es)) ≤ length (held_at t es)
filter-held t test [] = omega arith
filter-held {K} t test (e ∷ es) =
    let rest = filter-held t test es in
    elim (cases_Bool (test e)) [
      | inl taken ↦ rw taken (elim (cases_Bool (e.time == t)) [
        | inl now ↦ rw now (omega arith)
        | inr other ↦ rw other rest
      ])
      | inr left ↦ rw left (elim (cases_Bool (e.time == t)) [
        | inl now ↦ rw now (omega arith)
        | inr other ↦ rw other rest
      ])
    ]

each-slot : {K : Type 0} (n k : ℕ) (es : List (TimedEntry K)) → AtMostOfOneTime k es → EachAtMost k (slots_of n es)
each-slot {K} n k es maximum = All-map (λ (s : SlotOf K). length s.held ≤ k) (slot_of n es) (range_with_len 0 n) (λ i d within. one (get_or (range_with_len 0 n) i d))
  where
    one : (i : ℕ) → length (held_at (largest_time (entries_of n i es)) (entries_of n i es)) ≤ k
    one i =
        let t : ℕ = largest_time (entries_of n i es) in
        let few : count_at es t ≤ k = maximum t in
        let fewer = filter-held t (λ (e : TimedEntry K). e.time % n == i) es in
        omega arith

is-bounded : {K : Type 0} → SlotLaws K → (n k : ℕ) (es : List (TimedEntry K)) → AtMostOfOneTime k es → IsBounded n k es
is-bounded {K} laws n k es maximum =
    record { of_one_time = maximum; in_window = subst (λ (m : ℕ). held_count (slots_of n es) ≤ m * k) (laws.size n es) (laws.together k (slots_of n es) (each-slot n k es maximum)) }

-- ---- an agent's life, turn by turn

life-push : (a : ℕ) (turns : List Turn) (turn : Turn) → present_life a (turns ++ turn ∷ []) ≡ lived_on a (present_life a turns) turn
life-push a turns turn = fold-append (lived_on a) [] turns (turn ∷ [])

life-on : (a : ℕ) (turns : List Turn) (turn : Turn) → reopens a turn ≡ false → present_life a (turns ++ turn ∷ []) ≡ present_life a turns ++ turn ∷ []
life-on a turns turn goes = life-push a turns turn ∙ ap (λ b. cond b [] (present_life a turns ++ turn ∷ [])) goes

pub life-new : (a : ℕ) (turns : List Turn) (turn : Turn) → reopens a turn ≡ true → present_life a (turns ++ turn ∷ []) ≡ []
life-new a turns turn anew = life-push a turns turn ∙ ap (λ b. cond b [] (present_life a turns ++ turn ∷ [])) anew

abbrev entered : Turn → List (TimedEntry ℕ)
entered t = entered_by t.action t.given t.line.answer

-- the events that a turn hands to an agent
abbrev pub handed : ℕ → Turn → List (TimedEntry EventBody)
handed a turn = map event_in (filter (λ e. e.agent == a) turn.line.events)

pub events-on : (a : ℕ) (turns : List Turn) (turn : Turn) → reopens a turn ≡ false → events_of_life a (turns ++ turn ∷ []) ≡ events_of_life a turns ++ handed a turn
events-on a turns turn goes = ap (events_to a) (life-on a turns turn goes) ∙ events_to-push a (present_life a turns) turn

queries-on : (a : ℕ) (turns : List Turn) (turn : Turn) → reopens a turn ≡ false → queries_of_life a (turns ++ turn ∷ []) ≡ queries_of_life a turns ++ added entered a turn
queries-on a turns turn goes = ap (queries_at a) (life-on a turns turn goes) ∙ by-push entered a (present_life a turns) turn

-- ---- what is true of the agent of a number

-- what an agent entered in its present life
abbrev pub life_events : Option IdealNode → List (TimedEntry EventBody)
life_events None = []
life_events (Some m) = of_life m.agent.life m.agent.events.history

abbrev pub life_queries : Option IdealNode → List (TimedEntry ℕ)
life_queries None = []
life_queries (Some m) = of_life m.agent.life m.agent.queries.history

abbrev pub per_time : Option IdealNode → ℕ
per_time None = 0
per_time (Some m) = m.agent.config.per_time

-- What an agent entered in a track during its present life begins with what was restored as the life began, if anything
-- was, and continues with `entered`. At most k of these entries have the same time.
pub record IsLivedIn {K : Type 0} (k : ℕ) (all entered : List (TimedEntry K)) : Type 0 where
  pub taken : List (TimedEntry K)
  pub ends : all ≡ taken ++ entered
  pub few : AtMostOfOneTime k all

pub record IsLivedAt (configs : List Config) (turns : List Turn) (a : ℕ) (r : Option IdealNode) : Type 0 where
  pub config : option_map (λ m. m.agent.config) r ≡ slice_get configs a
  pub events : IsLivedIn (per_time r) (life_events r) (events_of_life a turns)
  pub queries : IsLivedIn (per_time r) (life_queries r) (queries_of_life a turns)

few-in : {K : Type 0} (life life' k k' : ℕ) (h : List (Past K)) → life' ≡ life → k' ≡ k → AtMostOfOneTime k (of_life life h) → AtMostOfOneTime k' (of_life life' h)
few-in life life' k k' h same per few = subst (λ (n : ℕ). AtMostOfOneTime n (of_life life' h)) (sym per) (subst (λ (l : ℕ). AtMostOfOneTime k (of_life l h)) (sym same) few)

-- the life continues
lives-on : {K : Type 0} (life life' k k' : ℕ) (old new : List (Past K)) (entered more : List (TimedEntry K)) → life' ≡ life → k' ≡ k → Enters life k old new more → IsLivedIn k (of_life life old) entered → IsLivedIn k' (of_life life' new) (entered ++ more)
lives-on life life' k k' old new entered more same per enters h = record {
  taken = h.taken;
  ends = ap (λ l. of_life l new) same ∙ enters-life enters ∙ ap (λ l. l ++ more) h.ends ∙ append_assoc h.taken entered more;
  few = few-in life life' k k' new same per (enters.bounded h.few);
}

-- or the agent has entered nothing yet in its life, and everything was restored
lives-anew : {K : Type 0} (k : ℕ) (all entered : List (TimedEntry K)) → entered ≡ [] → AtMostOfOneTime k all → IsLivedIn k all entered
lives-anew k all entered none few = record { taken = all; ends = sym (append-nil all) ∙ ap (λ l. all ++ l) (sym none); few = few }

lives-first : {K : Type 0} (k : ℕ) (all : List (TimedEntry K)) → all ≡ [] → IsLivedIn k all []
lives-first k all none = record { taken = []; ends = none; few = subst (AtMostOfOneTime k) (sym none) (λ t. omega arith) }

-- a turn of another agent
lived-other : (configs : List Config) (turns : List Turn) (turn : Turn) (a : ℕ) (r : Option IdealNode) → IsLivedAt configs turns a r → reopens a turn ≡ false → handed a turn ≡ [] → added entered a turn ≡ [] → IsLivedAt configs (turns ++ turn ∷ []) a r
lived-other configs turns turn a r h goes none no_query = record {
  config = h.config;
  events = subst (IsLivedIn (per_time r) (life_events r)) (sym (events-on a turns turn goes ∙ ap (λ l. events_of_life a turns ++ l) none ∙ append-nil (events_of_life a turns))) h.events;
  queries = subst (IsLivedIn (per_time r) (life_queries r)) (sym (queries-on a turns turn goes ∙ ap (λ l. queries_of_life a turns ++ l) no_query ∙ append-nil (queries_of_life a turns))) h.queries;
}

-- a turn of this agent, in the same life
lived-same : (configs : List Config) (turns : List Turn) (turn : Turn) (a : ℕ) (m n : IdealNode) → IsLivedAt configs turns a (Some m) → reopens a turn ≡ false → n.agent.life ≡ m.agent.life → n.agent.config ≡ m.agent.config
    → Enters m.agent.life m.agent.config.per_time m.agent.events.history n.agent.events.history (handed a turn) → Enters m.agent.life m.agent.config.per_time m.agent.queries.history n.agent.queries.history (added entered a turn)
    → IsLivedAt configs (turns ++ turn ∷ []) a (Some n)
lived-same configs turns turn a m n h same life config events queries =
    let i : IdealAgent = m.agent in
    let j : IdealAgent = n.agent in
    let per : j.config.per_time ≡ i.config.per_time = ap (λ (c : Config). c.per_time) config in
    record {
      config = ap (λ (c : Config). Some c) config ∙ h.config;
      events = subst (IsLivedIn j.config.per_time (of_life j.life j.events.history)) (sym (events-on a turns turn same))
          (lives-on i.life j.life i.config.per_time j.config.per_time i.events.history j.events.history (events_of_life a turns) (handed a turn) life per events h.events);
      queries = subst (IsLivedIn j.config.per_time (of_life j.life j.queries.history)) (sym (queries-on a turns turn same))
          (lives-on i.life j.life i.config.per_time j.config.per_time i.queries.history j.queries.history (queries_of_life a turns) (added entered a turn) life per queries h.queries);
    }

-- a turn that opens this agent again
lived-anew : (configs : List Config) (turns : List Turn) (turn : Turn) (a : ℕ) (m n : IdealNode) → IsLivedAt configs turns a (Some m) → reopens a turn ≡ true → n.agent.config ≡ m.agent.config
    → AtMostOfOneTime n.agent.config.per_time (life_events (Some n)) → AtMostOfOneTime n.agent.config.per_time (life_queries (Some n)) → IsLivedAt configs (turns ++ turn ∷ []) a (Some n)
lived-anew configs turns turn a m n h anew config events queries = record {
  config = ap (λ (c : Config). Some c) config ∙ h.config;
  events = lives-anew n.agent.config.per_time (life_events (Some n)) (events_of_life a (turns ++ turn ∷ [])) (ap (events_to a) (life-new a turns turn anew)) events;
  queries = lives-anew n.agent.config.per_time (life_queries (Some n)) (queries_of_life a (turns ++ turn ∷ [])) (ap (queries_at a) (life-new a turns turn anew)) queries;
}

-- ---- a step

abbrev pub IsLived : List Config → Cluster → List Turn → Type 0
IsLived configs c turns = (a : ℕ) → IsLivedAt configs turns a (slice_get c.nodes a)

pub and-false : (b : Bool) → (b && false) ≡ false
and-false true = refl
and-false false = refl

none-either : {X : Type 0} (b : Bool) → cond {A = List X} b [] [] ≡ []
none-either true = refl
none-either false = refl

-- a turn that doesn't change the agents, hands out no event and enters no query
lived-still : (configs : List Config) (c : Cluster) (turns : List Turn) (s : Stepped) → IsLived configs c turns → s.cluster.nodes ≡ c.nodes → is_restarted s.turn.line.answer ≡ false → s.turn.line.events ≡ [] → entered s.turn ≡ []
    → IsLived configs s.cluster (turns ++ s.turn ∷ [])
lived-still configs c turns s h nodes goes none no_query a =
    subst (λ (ms : List IdealNode). IsLivedAt configs (turns ++ s.turn ∷ []) a (slice_get ms a)) (sym nodes)
    (lived-other configs turns s.turn a (slice_get c.nodes a) (h a)
    (ap (λ b. is_agent a (actor_of s.turn.action) && b) goes ∙ and-false (is_agent a (actor_of s.turn.action)))
    (ap (λ es. map event_in (filter (λ (e : EventLine). e.agent == a) es)) none)
    (ap (λ l. cond (is_agent a (actor_of s.turn.action)) l []) no_query ∙ none-either (is_agent a (actor_of s.turn.action))))

-- a turn of the agent itself
own-act : Below → (configs : List Config) (c : Cluster) (turns : List Turn) (b : ℕ) (act : Act) (m : IdealNode) → IsRepresentable m.agent → IsLivedAt configs turns b (Some m)
    → (let o = apply m c.sent act in IsLivedAt configs (turns ++ (applied c b act o).turn ∷ []) b (Some (with_handed o.done.handed o.node)))
own-act lower configs c turns b act m representable h = by (is_restarted o.done.answer) refl
  where
    o : Applied
    o = apply m c.sent act

    turn : Turn
    turn = (applied c b act (apply m c.sent act)).turn

    k : (let o = apply m c.sent act in Keeps m.agent o.node.agent o.done (entered_by (Of b act) (given_by c.sent act) o.done.answer))
    k = keeps-apply lower m c.sent b act representable

    mine : (b == b) ≡ true
    mine = eq-eqb b b refl

    by : (x : Bool) → is_restarted (apply m c.sent act).done.answer ≡ x
        → (let o = apply m c.sent act in IsLivedAt configs (turns ++ (applied c b act o).turn ∷ []) b (Some (with_handed o.done.handed o.node)))
    by true opening =
        let life = k.life ∙ ap (λ x. cond x (m.agent.life + 1) m.agent.life) opening in
        let per : o.node.agent.config.per_time ≡ m.agent.config.per_time = ap (λ (c : Config). c.per_time) k.config in
        lived-anew configs turns turn b m _ h (ap (λ x. (b == b) && x) opening ∙ ap (λ x. x && true) mine) k.config
        (few-in (m.agent.life + 1) o.node.agent.life m.agent.config.per_time o.node.agent.config.per_time o.node.agent.events.history life per (k.events_begin opening).few)
        (few-in (m.agent.life + 1) o.node.agent.life m.agent.config.per_time o.node.agent.config.per_time o.node.agent.queries.history life per (k.queries_begin opening).few)
    by false goes =
        lived-same configs turns turn b m _ h (ap (λ x. (b == b) && x) goes ∙ and-false (b == b)) (k.life ∙ ap (λ x. cond x (m.agent.life + 1) m.agent.life) goes) k.config
        (subst (Enters m.agent.life m.agent.config.per_time m.agent.events.history o.node.agent.events.history) (sym (lines-same b b o.done.events (eq-eqb b b refl))) (k.events goes))
        (subst (Enters m.agent.life m.agent.config.per_time m.agent.queries.history o.node.agent.queries.history) (sym (ap (λ x. cond x (entered turn) []) mine)) (k.queries goes))

lived-applied : Below → (configs : List Config) (c : Cluster) (turns : List Turn) (b : ℕ) (act : Act) (m : IdealNode) → IsAfter configs c turns → IsLived configs c turns → slice_get c.nodes b ≡ Some m
    → (let s = applied c b act (apply m c.sent act) in IsLived configs s.cluster (turns ++ s.turn ∷ []))
lived-applied lower configs c turns b act m is h at a = by (b == a) refl
  where
    o : Applied
    o = apply m c.sent act

    turn : Turn
    turn = (applied c b act (apply m c.sent act)).turn

    new : IdealNode
    new = with_handed (apply m c.sent act).done.handed (apply m c.sent act).node

    by : (t : Bool) → (b == a) ≡ t → IsLivedAt configs (turns ++ (applied c b act (apply m c.sent act)).turn ∷ []) a (slice_get (set c.nodes b (with_handed (apply m c.sent act).done.handed (apply m c.sent act).node)) a)
    by true t =
        let own = own-act lower configs c turns b act m (all-at (λ m. IsRepresentable m.agent) c.nodes b m is.representable at) (subst (IsLivedAt configs turns b) at (h b)) in
        subst (λ (n : ℕ). IsLivedAt configs (turns ++ turn ∷ []) n (slice_get (set c.nodes b new) n)) (eqb-true b a t)
        (subst (IsLivedAt configs (turns ++ turn ∷ []) b) (sym (slice_get-set_same c.nodes b m new at)) own)
    by false t =
        subst (IsLivedAt configs (turns ++ turn ∷ []) a) (sym (slice_get-set_other c.nodes b a new (eqb-false b a t)))
        (lived-other configs turns turn a (slice_get c.nodes a) (h a)
        (ap (λ x. x && is_restarted turn.line.answer) t)
        (lines-other a b o.done.events t)
        (ap (λ x. cond x (entered turn) []) t))

pub lived-step : Below → (configs : List Config) (r : Run) (action : Action) → IsAfter configs r.cluster r.turns → IsLived configs r.cluster r.turns → IsLived configs (after r action).cluster (after r action).turns
lived-step lower configs r action is h =
    step-cases (λ s. IsLived configs s.cluster (r.turns ++ s.turn ∷ [])) r.cluster action (λ bytes. lived-still configs r.cluster r.turns (injects r.cluster bytes) h refl refl refl refl)
    (λ b act at. lived-still configs r.cluster r.turns (on_agent r.cluster b act None) h refl refl refl refl) (λ b act m of at. lived-applied lower configs r.cluster r.turns b act m is h at)

-- ---- the start

first_node-at : (configs : List Config) (a : ℕ) → slice_get (map first_node configs) a ≡ option_map first_node (slice_get configs a)
first_node-at [] a = refl
first_node-at (c ∷ cs) zero = refl
first_node-at (c ∷ cs) (suc a) = first_node-at cs a

pub lived-start : (configs : List Config) → IsLived configs (start configs).cluster []
lived-start configs a = subst (IsLivedAt configs [] a) (sym (first_node-at configs a)) (by (slice_get configs a) refl)
  where
    by : (r : Option Config) → slice_get configs a ≡ r → IsLivedAt configs [] a (option_map first_node r)
    by None at = record { config = sym at; events = lives-first 0 [] refl; queries = lives-first 0 [] refl }
    by (Some c) at = record {
      config = sym at;
      events = lives-first c.per_time (of_life 1 (opened_first c).events.history) (ap (of_life 1) (first-events c));
      queries = lives-first c.per_time (of_life 1 (opened_first c).queries.history) (ap (of_life 1) (first-queries c));
    }

-- ---- every run

abbrev IsShort : TimedEntry EventBody → Type 0
IsShort e = length e.key.name + length e.key.payload ≤ max_text_bytes

-- the entries of a life are short if those of all lives are
short-life : (life : ℕ) (history : List (Past EventBody)) → All (λ p. IsShort p.entry) history → All IsShort (of_life life history)
short-life life history all = All-map IsShort (λ (p : Past EventBody). p.entry) (filter (λ p. p.life == life) history) (All-filter (λ (p : Past EventBody). p.life == life) (λ p. IsShort p.entry) history all)

-- a list has at most k entries of each time if it still has at most k with more entries in front
few-following : {K : Type 0} (k : ℕ) (front es : List (TimedEntry K)) → AtMostOfOneTime k (front ++ es) → AtMostOfOneTime k es
few-following k [] es few = few
few-following {K} k (e ∷ front) es few = few-following k front es (λ t. let one = fewer e (front ++ es) t in let all : count_at (e ∷ front ++ es) t ≤ k = few t in omega arith)
  where
    fewer : (e : TimedEntry K) (es : List (TimedEntry K)) (t : ℕ) → count_at es t ≤ count_at (e ∷ es) t
    fewer e es t = elim (cases_Bool (e.time == t)) [
      | inl now ↦ rw now (omega arith)
      | inr other ↦ rw other (omega arith)
    ]

all-following : {X : Type 0} (P : X → Type 0) (front xs : List X) → All P (front ++ xs) → All P xs
all-following P [] xs all = all
all-following P (x ∷ front) xs all = all-following P front xs (All-tail P x (front ++ xs) all)

lived-bounded : {K : Type 0} → SlotLaws K → (n k k' : ℕ) (all entered : List (TimedEntry K)) → k ≡ k' → IsLivedIn k all entered → IsBounded n k' entered
lived-bounded laws n k k' all entered same h = is-bounded laws n k' entered (subst (λ (j : ℕ). AtMostOfOneTime j entered) same (few-following k h.taken entered (subst (AtMostOfOneTime k) h.ends h.few)))

bounded-events : SlotLaws EventBody → (configs : List Config) (turns : List Turn) (a : ℕ) (r : Option IdealNode) (c : Config) → IsLivedAt configs turns a r → ((m : IdealNode) → r ≡ Some m → IsRepresentable m.agent) → slice_get configs a ≡ Some c
    → AreEventsBounded c.event_buffer c.per_time (events_of_life a turns)
bounded-events laws configs turns a None c h representable at = absurd (let no : None ≡ Some c = h.config ∙ at in cc)
bounded-events laws configs turns a (Some m) c h representable at =
    let same : m.agent.config ≡ c = let e : Some m.agent.config ≡ Some c = h.config ∙ at in cc in
    record {
      bounded = lived-bounded laws c.event_buffer m.agent.config.per_time c.per_time (life_events (Some m)) (events_of_life a turns) (ap (λ (x : Config). x.per_time) same) h.events;
      short = all-following IsShort h.events.taken (events_of_life a turns) (subst (All IsShort) h.events.ends (short-life m.agent.life m.agent.events.history (representable m refl).consistent.sound.short));
    }

bounded-queries : SlotLaws ℕ → (configs : List Config) (turns : List Turn) (a : ℕ) (r : Option IdealNode) (c : Config) → IsLivedAt configs turns a r → slice_get configs a ≡ Some c → IsBounded c.query_buffer c.per_time (queries_of_life a turns)
bounded-queries laws configs turns a None c h at = absurd (let no : None ≡ Some c = h.config ∙ at in cc)
bounded-queries laws configs turns a (Some m) c h at =
    let same : m.agent.config ≡ c = let e : Some m.agent.config ≡ Some c = h.config ∙ at in cc in
    lived-bounded laws c.query_buffer m.agent.config.per_time c.per_time (life_queries (Some m)) (queries_of_life a turns) (ap (λ (x : Config). x.per_time) same) h.queries

abbrev EventsAt : List Config → List Turn → Turn → Type 0
EventsAt configs before turn = (a : ℕ) (c : Config) → slice_get configs a ≡ Some c → AreEventsBounded c.event_buffer c.per_time (events_of_life a (before ++ turn ∷ []))

abbrev QueriesAt : List Config → List Turn → Turn → Type 0
QueriesAt configs before turn = (a : ℕ) (c : Config) → slice_get configs a ≡ Some c → IsBounded c.query_buffer c.per_time (queries_of_life a (before ++ turn ∷ []))

-- what each action preserves
record IsKept (configs : List Config) (r : Run) : Type 0 where
  after : IsAfter configs r.cluster r.turns
  lived : IsLived configs r.cluster r.turns
  events : EventsBounded configs r.turns
  queries : QueriesBounded configs r.turns

kept-step : Below → SlotLaws EventBody → SlotLaws ℕ → (configs : List Config) (r : Run) (action : Action) → CanTellIt configs action → IsKept configs r → IsKept configs (after r action)
kept-step lower event_laws query_laws configs r action tells h =
    let turn : Turn = (step r.cluster action).turn in
    let lived = lived-step lower configs r action h.after h.lived in
    let next : IsAfter configs (after r action).cluster (after r action).turns = after-step lower configs r action tells h.after in
    record {
      after = next;
      lived = lived;
      events = at_each_push (EventsAt configs) r.turns turn h.events (λ a c at. bounded-events event_laws configs (r.turns ++ turn ∷ []) a (slice_get (after r action).cluster.nodes a) c (lived a) (λ m is. all-at (λ m. IsRepresentable m.agent) (after r action).cluster.nodes a m next.representable is) at);
      queries = at_each_push (QueriesAt configs) r.turns turn h.queries (λ a c at. bounded-queries query_laws configs (r.turns ++ turn ∷ []) a (slice_get (after r action).cluster.nodes a) c (lived a) at);
    }

kept-run : Below → SlotLaws EventBody → SlotLaws ℕ → (configs : List Config) (actions : List Action) → AreConfigs configs → CanTell configs actions → IsKept configs (run_of configs actions)
kept-run lower event_laws query_laws configs actions ok told =
    fold_keeps_at (IsKept configs) (CanTellIt configs) after (start configs) actions
    (record { after = after-start lower configs ok; lived = lived-start configs; events = at_each_nil (EventsAt configs); queries = at_each_nil (QueriesAt configs) })
    (tell-each configs actions told) (kept-step lower event_laws query_laws configs)

pub events-bounded : Below → SlotLaws EventBody → SlotLaws ℕ → (configs : List Config) (actions : List Action) → AreConfigs configs → CanTell configs actions → EventsBounded configs (run_of configs actions).turns
events-bounded lower event_laws query_laws configs actions ok told = (kept-run lower event_laws query_laws configs actions ok told).events

pub queries-bounded : Below → SlotLaws EventBody → SlotLaws ℕ → (configs : List Config) (actions : List Action) → AreConfigs configs → CanTell configs actions → QueriesBounded configs (run_of configs actions).turns
queries-bounded lower event_laws query_laws configs actions ok told = (kept-run lower event_laws query_laws configs actions ok told).queries

-- ---- the windows, whatever filled them

windows-of : SlotLaws EventBody → SlotLaws ℕ → (configs : List Config) (turns : List Turn) (a : ℕ) (r : Option IdealNode) (m : IdealNode) → IsLivedAt configs turns a r → r ≡ Some m → All IsShort (of_life m.agent.life m.agent.events.history) → AreWindowsBounded m.agent
windows-of event_laws query_laws configs turns a r m h at short =
    let i = m.agent in
    let few_events : AtMostOfOneTime i.config.per_time (of_life i.life i.events.history) = subst (λ (o : Option IdealNode). AtMostOfOneTime (per_time o) (life_events o)) at h.events.few in
    let few_queries : AtMostOfOneTime i.config.per_time (of_life i.life i.queries.history) = subst (λ (o : Option IdealNode). AtMostOfOneTime (per_time o) (life_queries o)) at h.queries.few in
    record {
      events = record { bounded = is-bounded event_laws i.config.event_buffer i.config.per_time (of_life i.life i.events.history) few_events; short = short };
      queries = is-bounded query_laws i.config.query_buffer i.config.per_time (of_life i.life i.queries.history) few_queries;
    }

-- what holds of the element at each place holds of all elements
from-each : {X : Type 0} (P : X → Type 0) (xs : List X) → ((a : ℕ) (x : X) → slice_get xs a ≡ Some x → P x) → All P xs
from-each P [] each = All-nil P
from-each P (x ∷ xs) each = All-cons P x xs (each 0 x refl) (from-each P xs (λ a y at. each (suc a) y at))

pub windows-bounded : Below → SlotLaws EventBody → SlotLaws ℕ → (configs : List Config) (actions : List Action) → AreConfigs configs → CanTell configs actions → WindowsBounded (run_of configs actions)
windows-bounded lower event_laws query_laws configs actions ok told =
    let r : Run = run_of configs actions in
    let k = kept-run lower event_laws query_laws configs actions ok told in
    from-each (λ m. AreWindowsBounded m.agent) r.cluster.nodes
    (λ a m at. windows-of event_laws query_laws configs r.turns a (slice_get r.cluster.nodes a) m (k.lived a) at
    (short-life m.agent.life m.agent.events.history (all-at (λ m. IsRepresentable m.agent) r.cluster.nodes a m k.after.representable at).consistent.sound.short))

pub windows-start : SlotLaws EventBody → SlotLaws ℕ → (configs : List Config) → WindowsBounded (start configs)
windows-start event_laws query_laws configs =
    from-each (λ m. AreWindowsBounded m.agent) (start configs).cluster.nodes
    (λ a m at. windows-of event_laws query_laws configs [] a (slice_get (start configs).cluster.nodes a) m (lived-start configs a) at (short m (slice_get configs a) (sym (first_node-at configs a) ∙ at)))
  where
    short : (m : IdealNode) (r : Option Config) → option_map first_node r ≡ Some m → All IsShort (of_life m.agent.life m.agent.events.history)
    short m None at = absurd (let no : None ≡ Some m = at in cc)
    short m (Some c) at =
        let same : first_node c ≡ m = let e : Some (first_node c) ≡ Some m = at in cc in
        subst (λ (n : IdealNode). All IsShort (of_life n.agent.life n.agent.events.history)) same (subst (λ (h : List (Past EventBody)). All IsShort (of_life 1 h)) (sym (first-events c)) (All-nil IsShort))

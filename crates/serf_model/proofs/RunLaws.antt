-- What is true after every run: the agents are sound, and their histories are what the turns show.
use Rattle.serf_model.proofs.Names.{Bool, List, None, Option, Some, [], ap, arith, cond, false, inl, inr, length, map, refl, set, subst, sym, true, ℕ, ◌++◌, ◌-◌, ◌<◌, ◌==◌, ◌^◌, ◌∙◌, ◌∷◌, ◌≡◌, ◌≢◌, ◌⊎◌, eq-eqb, eqb-false, eqb-true, true≢false, append-nil, get_or-map, length-map, map-append, All-cons, All-map, All-nil, All-weaker, filter-append, recursion_from_All, AllByRecursion, filter, flat_map, option_map, All, AllPairs, slice_get, AreBytes, EventBody, events_in, TimedEvent, event_of, TimedEntry, Past, IsWritable, event_entry, whatever, Config, EventOut, Below, is_restarted, Applied, Cluster, IdealNode, Run, Stepped, after, applied, apply, event_line, injects, on_agent, step, with_handed, events_given, IsRepresentable, BringsTold, BringsToldBy, CanTell, CanTellAct, NoneKeeps, tailed_by, Turn, actor_of, entered_by, event_in, events_to, fired_at, fired_by, given_by, is_agent, packet_given, queries_at, sent_in, turns_by, Act, Action, Inject, Of, Answer, EventLine}
use Rattle.serf_model.specs.declared.action.Act.TheVariants as acts
use Rattle.serf_model.specs.declared.line.Answer.TheVariants as lines
use Rattle.serf_model.proofs.StepCases.{step-cases}
use Rattle.serf_model.proofs.TurnLaws.{flat_map-push}
use Rattle.serf_model.proofs.HistoryGrowth.{Keeps, keeps-apply}
use Rattle.serf_model.proofs.PerTimeBound.{Enters, enters-entries, entries, out_in}
use Rattle.serf_model.proofs.Effects.{representable-apply}
use Rattle.serf_model.proofs.PacketsHave.{Carries, brought, given-sent}
use Rattle.serf_model.proofs.Reopenings.{Begins}
use Rattle.serf_model.proofs.Spreading.{Spreads, spreads-applied, spreads-injected}
use Rattle.serf_model.proofs.Within.{IsWithin, within-append, within-wider}
pub use Rattle.serf_model.proofs.Places.{all-at, all-put, map-put, slice_get-mapped, slice_get-set_other, slice_get-set_same}

-- ---- one more turn

pub events_to-push : (a : ℕ) (turns : List Turn) (turn : Turn) → events_to a (turns ++ turn ∷ []) ≡ events_to a turns ++ map event_in (filter (λ e. e.agent == a) turn.line.events)
events_to-push a turns turn =
    let mine : EventLine → Bool = λ e. e.agent == a in
    let lines : List EventLine = flat_map (λ t. t.line.events) turns in
    ap (λ es. map event_in (filter mine es)) (flat_map-push (λ t. t.line.events) turns turn)
    ∙ ap (λ es. map event_in es) (filter-append mine lines turn.line.events)
    ∙ map-append event_in (filter mine lines) (filter mine turn.line.events)

-- what a turn adds for an agent, if it adds something for the agent that acts
abbrev pub added : {X : Type 0} → (Turn → List X) → ℕ → Turn → List X
added f a turn = cond (is_agent a (actor_of turn.action)) (f turn) []

pub by-push : {X : Type 0} (f : Turn → List X) (a : ℕ) (turns : List Turn) (turn : Turn) → flat_map f (turns_by a (turns ++ turn ∷ [])) ≡ flat_map f (turns_by a turns) ++ added f a turn
by-push {X} f a turns turn =
    ap (flat_map f) (filter-append (λ t. is_agent a (actor_of t.action)) turns (turn ∷ [])) ∙ by (is_agent a (actor_of turn.action))
  where
    by : (b : Bool) → flat_map f (turns_by a turns ++ cond b (turn ∷ []) []) ≡ flat_map f (turns_by a turns) ++ cond b (f turn) []
    by true = flat_map-push f (turns_by a turns) turn
    by false = ap (flat_map f) (append-nil (turns_by a turns)) ∙ sym (append-nil (flat_map f (turns_by a turns)))

-- ---- the lines of what an agent hands out

pub lines-same : (a b : ℕ) (outs : List EventOut) → (b == a) ≡ true → map event_in (filter (λ e. e.agent == a) (map (event_line b) outs)) ≡ map out_in outs
lines-same a b [] t = refl
lines-same a b (out ∷ outs) t = rw t (ap (λ l. out_in out ∷ l) (lines-same a b outs t))

pub lines-other : (a b : ℕ) (outs : List EventOut) → (b == a) ≡ false → map event_in (filter (λ e. e.agent == a) (map (event_line b) outs)) ≡ []
lines-other a b [] t = refl
lines-other a b (out ∷ outs) t = rw t (lines-other a b outs t)

-- ---- after a run

-- what an agent entered in all its lives
abbrev pub events_at : Option IdealNode → List (TimedEntry EventBody)
events_at None = []
events_at (Some m) = entries m.agent.events.history

abbrev pub queries_of : Option IdealNode → List (TimedEntry ℕ)
queries_of None = []
queries_of (Some m) = entries m.agent.queries.history

-- an event's texts are bytes
abbrev pub Written : TimedEntry EventBody → Type 0
Written e = IsWritable e.key

-- After a run of agents with these settings, each event that was handed to an agent is in the agent's history, and no
-- two of them are equal. The same holds of the queries that entered at it.
pub record IsAfter (configs : List Config) (c : Cluster) (turns : List Turn) : Type 0 where
  pub representable : AllByRecursion (λ m. IsRepresentable m.agent) c.nodes
  pub settings : map (λ m. m.agent.config) c.nodes ≡ configs
  pub told : NoneKeeps configs ⊎ Spreads Written c
  pub events : (a : ℕ) → IsWithin (events_at (slice_get c.nodes a)) (events_to a turns)
  pub queries : (a : ℕ) → IsWithin (queries_of (slice_get c.nodes a)) (queries_at a turns)
  pub sent : c.sent ≡ sent_in turns

-- no agent keeps its events, or what this action fires or injects can be written in lines
abbrev pub CanTellIt : List Config → Action → Type 0
CanTellIt configs action = NoneKeeps configs ⊎ BringsTold action

all-each : (configs : List Config) (actions : List Action) → ((action : Action) → CanTellIt configs action) → AllByRecursion (CanTellIt configs) actions
all-each configs [] each = tt
all-each configs (a ∷ others) each = (each a, all-each configs others each)

all-told : (configs : List Config) (actions : List Action) → AllByRecursion BringsTold actions → AllByRecursion (CanTellIt configs) actions
all-told configs [] all = tt
all-told configs (a ∷ others) all = (inr all.0, all-told configs others all.1)

pub tell-each : (configs : List Config) (actions : List Action) → CanTell configs actions → AllByRecursion (CanTellIt configs) actions
tell-each configs actions (inl none) = all-each configs actions (λ a. inl none)
tell-each configs actions (inr all) = all-told configs actions (recursion_from_All BringsTold actions all)

abbrev entered : Turn → List (TimedEntry ℕ)
entered t = entered_by t.action t.given t.line.answer

cond-same : {X : Type 0} (b : Bool) (x : X) → cond b x x ≡ x
cond-same true x = refl
cond-same false x = refl

-- ---- what agents can write in lines

-- the agent of a number has the settings of this number
pub settings-at : (configs : List Config) (c : Cluster) (turns : List Turn) (b : ℕ) (m : IdealNode) → IsAfter configs c turns → slice_get c.nodes b ≡ Some m → slice_get configs b ≡ Some m.agent.config
settings-at configs c turns b m h at =
    ap (λ l. slice_get l b) (sym h.settings) ∙ slice_get-mapped (λ (m : IdealNode). m.agent.config) c.nodes b ∙ ap (λ (r : Option IdealNode). option_map (λ (m : IdealNode). m.agent.config) r) at

-- if no agent keeps its events, this one doesn't
pub none-keeps : (configs : List Config) (a : ℕ) (config : Config) → NoneKeeps configs → slice_get configs a ≡ Some config → config.keep_events ≡ false
none-keeps configs a config none at = all-at (λ (c : Config). c.keep_events ≡ false) configs a config (recursion_from_All (λ (c : Config). c.keep_events ≡ false) configs none) at

pub tells-at : (configs : List Config) (c : Cluster) (turns : List Turn) (b : ℕ) (act : Act) (m : IdealNode) → IsAfter configs c turns → CanTellIt configs (Of b act) → slice_get c.nodes b ≡ Some m → CanTellAct m.agent.config act (given_by c.sent act)
tells-at configs c turns b act m h (inl none) at = λ keeps. absurd (true≢false (sym keeps ∙ none-keeps configs b m.agent.config none (settings-at configs c turns b m h at)))
tells-at configs c turns b act m h (inr told) at = λ keeps. (told, by keeps h.told)
  where
    by : m.agent.config.keep_events ≡ true → NoneKeeps configs ⊎ Spreads Written c → All Written (events_given (given_by c.sent act))
    by keeps (inl none) = absurd (true≢false (sym keeps ∙ none-keeps configs b m.agent.config none (settings-at configs c turns b m h at)))
    by keeps (inr spreads) = brought Written (given_by c.sent act) (λ packet is. given-sent (Carries Written) c.sent (Of b act) packet spreads.packets is)

told-at : (b t : ℕ) (act : Act) → BringsToldBy act → All Written (fired_at t (Of b act))
told-at b t (acts.Fire name payload coalesce) told = All-cons Written (record { time = t; key = event_of name payload }) [] told (All-nil Written)
told-at b t _ told = All-nil Written

told-fired : (b : ℕ) (act : Act) (answer : Answer) → BringsToldBy act → All Written (fired_by (Of b act) answer)
told-fired b act (lines.Fired t) told = told-at b t act told
told-fired b act _ told = All-nil Written

-- what is read from a text can be written in lines
told-tailed : Below → (action : Action) → All Written (tailed_by action)
told-tailed lower (Of agent (acts.Restart tail)) =
    All-map Written event_entry (events_in whatever tail)
    (All-weaker (λ (e : TimedEvent). (0 < e.time) × (e.time < 2 ^ 64 - 1) × AreBytes e.name × AreBytes e.payload) (λ (e : TimedEvent). Written (event_entry e)) (λ e h. record { name = h.2; payload = h.3 }) (events_in whatever tail) (lower.says.can_be_written whatever tail))
told-tailed lower _ = All-nil Written

told-applied : Below → (configs : List Config) (c : Cluster) (turns : List Turn) (b : ℕ) (act : Act) (m : IdealNode) → IsAfter configs c turns → CanTellIt configs (Of b act) → slice_get c.nodes b ≡ Some m → IsRepresentable m.agent
    → NoneKeeps configs ⊎ Spreads Written (applied c b act (apply m c.sent act)).cluster
told-applied lower configs c turns b act m h (inl none) at g = inl none
told-applied lower configs c turns b act m h (inr told) at g = by h.told
  where
    by : NoneKeeps configs ⊎ Spreads Written c → NoneKeeps configs ⊎ Spreads Written (applied c b act (apply m c.sent act)).cluster
    by (inl none) = inl none
    by (inr spreads) =
        let o : Applied = apply m c.sent act in
        inr (spreads-applied lower Written c b act m g (tells-at configs c turns b act m h (inr told) at) at spreads (told-fired b act o.done.answer told) (λ keeps. told-tailed lower (Of b act))).0

told-injected : (configs : List Config) (c : Cluster) (bytes : List ℕ) → CanTellIt configs (Inject bytes) → NoneKeeps configs ⊎ Spreads Written c → NoneKeeps configs ⊎ Spreads Written (injects c bytes).cluster
told-injected configs c bytes (inl none) told = inl none
told-injected configs c bytes (inr brings) (inl none) = inl none
told-injected configs c bytes (inr brings) (inr spreads) = inr (spreads-injected Written c bytes spreads brings)

-- ---- a turn

-- a turn that doesn't change the agents, hands out no event and enters no query
after-still : (configs : List Config) (c : Cluster) (turns : List Turn) (s : Stepped) → IsAfter configs c turns → NoneKeeps configs ⊎ Spreads Written s.cluster → s.cluster.nodes ≡ c.nodes → s.cluster.sent ≡ c.sent ++ s.turn.packets → s.turn.line.events ≡ [] → entered s.turn ≡ []
    → IsAfter configs s.cluster (turns ++ s.turn ∷ [])
after-still configs c turns s h told nodes sent none no_query = record {
  representable = subst (AllByRecursion (λ m. IsRepresentable m.agent)) (sym nodes) h.representable;
  settings = ap (map (λ (m : IdealNode). m.agent.config)) nodes ∙ h.settings;
  told = told;
  events = λ a.
      subst (λ (ms : List IdealNode). IsWithin (events_at (slice_get ms a)) (events_to a (turns ++ s.turn ∷ []))) (sym nodes)
      (subst (IsWithin (events_at (slice_get c.nodes a)))
      (sym (events_to-push a turns s.turn ∙ ap (λ es. events_to a turns ++ map event_in (filter (λ (e : EventLine). e.agent == a) es)) none ∙ append-nil (events_to a turns))) (h.events a));
  queries = λ a.
      subst (λ (ms : List IdealNode). IsWithin (queries_of (slice_get ms a)) (queries_at a (turns ++ s.turn ∷ []))) (sym nodes)
      (subst (IsWithin (queries_of (slice_get c.nodes a)))
      (sym (by-push entered a turns s.turn ∙ ap (λ l. queries_at a turns ++ l) (ap (λ l. cond (is_agent a (actor_of s.turn.action)) l []) no_query ∙ cond-same (is_agent a (actor_of s.turn.action)) []) ∙ append-nil (queries_at a turns)))
      (h.queries a));
  sent = sent ∙ ap (λ l. l ++ s.turn.packets) h.sent ∙ sym (flat_map-push (λ t. t.packets) turns s.turn);
}

-- no two entries of a history are equal
pub distinct-entries : {K : Type 0} (h : List (Past K)) → AllPairs (λ p q. p.entry ≢ q.entry) h → AllPairs (λ x y. x ≢ y) (entries h)
distinct-entries {K} h distinct i j d lt within same =
    let long : j < length h = omega (arith, length-map h (λ (p : Past K). p.entry)) in
    let p : Past K = record { life = 0; entry = d } in
    distinct i j p lt long (sym (get_or-map (λ (p : Past K). p.entry) h i p d (omega arith)) ∙ same ∙ get_or-map (λ (p : Past K). p.entry) h j p d long)

-- a history continues, or begins again in the next life
next-within : {K : Type 0} (life k : ℕ) (old new : List (Past K)) (more some : List (TimedEntry K)) (anew : Bool) → (anew ≡ false → Enters life k old new more) → (anew ≡ true → more ≡ []) → (anew ≡ true → Begins life k old new)
    → AllPairs (λ p q. p.entry ≢ q.entry) new → IsWithin (entries old) some → IsWithin (entries new) (some ++ more)
next-within {K} life k old new more some true on none begins distinct h =
    subst (IsWithin (entries new)) (sym (ap (λ l. some ++ l) (none refl) ∙ append-nil some)) (within-wider (entries old) (entries new) some (begins refl).grown h)
next-within {K} life k old new more some false on none begins distinct h =
    let grows : entries new ≡ entries old ++ more = enters-entries (on refl) in
    let pairs : AllPairs (λ x y. x ≢ y) (entries old ++ more) = subst (AllPairs (λ x y. x ≢ y)) grows (distinct-entries new distinct) in
    subst (λ l. IsWithin l (some ++ more)) (sym grows) (within-append (entries old) some more h pairs)

after-applied : (configs : List Config) (c : Cluster) (turns : List Turn) (b : ℕ) (act : Act) (m : IdealNode) (o : Applied) → IsAfter configs c turns → slice_get c.nodes b ≡ Some m
    → NoneKeeps configs ⊎ Spreads Written (applied c b act o).cluster → IsRepresentable o.node.agent → Keeps m.agent o.node.agent o.done (entered_by (Of b act) (given_by c.sent act) o.done.answer)
    → IsAfter configs (applied c b act o).cluster (turns ++ (applied c b act o).turn ∷ [])
after-applied configs c turns b act m o h at told representable keeps = record {
  representable = all-put (λ m. IsRepresentable m.agent) c.nodes b (with_handed o.done.handed o.node) h.representable representable;
  settings = map-put (λ (m : IdealNode). m.agent.config) c.nodes b m (with_handed o.done.handed o.node) at keeps.config ∙ h.settings;
  told = told;
  events = λ a. events a (b == a) refl;
  queries = λ a. queries a (b == a) refl;
  sent = ap (λ l. l ++ o.done.packets) h.sent ∙ sym (flat_map-push (λ t. t.packets) turns (applied c b act o).turn);
}
  where
    new : IdealNode
    new = with_handed o.done.handed o.node

    brings : List (TimedEntry ℕ)
    brings = entered_by (Of b act) (given_by c.sent act) o.done.answer

    own-events : IsWithin (entries o.node.agent.events.history) (events_to b turns ++ map out_in o.done.events)
    own-events =
        next-within m.agent.life m.agent.config.per_time m.agent.events.history o.node.agent.events.history (map out_in o.done.events) (events_to b turns) (is_restarted o.done.answer) keeps.events
        (λ anew. ap (map out_in) (keeps.no_events anew)) keeps.events_begin representable.consistent.sound.events.distinct
        (subst (λ r. IsWithin (events_at r) (events_to b turns)) at (h.events b))

    own-queries : IsWithin (entries o.node.agent.queries.history) (queries_at b turns ++ entered_by (Of b act) (given_by c.sent act) o.done.answer)
    own-queries =
        next-within m.agent.life m.agent.config.per_time m.agent.queries.history o.node.agent.queries.history (entered_by (Of b act) (given_by c.sent act) o.done.answer) (queries_at b turns) (is_restarted o.done.answer) keeps.queries
        keeps.no_queries keeps.queries_begin representable.consistent.sound.queries.distinct (subst (λ r. IsWithin (queries_of r) (queries_at b turns)) at (h.queries b))

    events : (a : ℕ) (t : Bool) → (b == a) ≡ t → IsWithin (events_at (slice_get (set c.nodes b (with_handed o.done.handed o.node)) a)) (events_to a (turns ++ (applied c b act o).turn ∷ []))
    events a true t =
        let same : b ≡ a = eqb-true b a t in
        subst (λ (j : ℕ). IsWithin (events_at (slice_get (set c.nodes b (with_handed o.done.handed o.node)) j)) (events_to j (turns ++ (applied c b act o).turn ∷ []))) same
        (subst (λ r. IsWithin (events_at r) (events_to b (turns ++ (applied c b act o).turn ∷ []))) (sym (slice_get-set_same c.nodes b m (with_handed o.done.handed o.node) at))
        (subst (IsWithin (entries o.node.agent.events.history))
        (ap (λ l. events_to b turns ++ l) (sym (lines-same b b o.done.events (eq-eqb b b refl))) ∙ sym (events_to-push b turns (applied c b act o).turn)) own-events))
    events a false t =
        subst (λ r. IsWithin (events_at r) (events_to a (turns ++ (applied c b act o).turn ∷ []))) (sym (slice_get-set_other c.nodes b a (with_handed o.done.handed o.node) (eqb-false b a t)))
        (subst (IsWithin (events_at (slice_get c.nodes a)))
        (sym (events_to-push a turns (applied c b act o).turn ∙ ap (λ l. events_to a turns ++ l) (lines-other a b o.done.events t) ∙ append-nil (events_to a turns))) (h.events a))

    queries : (a : ℕ) (t : Bool) → (b == a) ≡ t → IsWithin (queries_of (slice_get (set c.nodes b (with_handed o.done.handed o.node)) a)) (queries_at a (turns ++ (applied c b act o).turn ∷ []))
    queries a true t =
        let same : b ≡ a = eqb-true b a t in
        subst (λ (j : ℕ). IsWithin (queries_of (slice_get (set c.nodes b (with_handed o.done.handed o.node)) j)) (queries_at j (turns ++ (applied c b act o).turn ∷ []))) same
        (subst (λ r. IsWithin (queries_of r) (queries_at b (turns ++ (applied c b act o).turn ∷ []))) (sym (slice_get-set_same c.nodes b m (with_handed o.done.handed o.node) at))
        (subst (IsWithin (entries o.node.agent.queries.history))
        (ap (λ x. queries_at b turns ++ cond x (entered_by (Of b act) (given_by c.sent act) o.done.answer) []) (sym (eq-eqb b b refl)) ∙ sym (by-push entered b turns (applied c b act o).turn)) own-queries))
    queries a false t =
        subst (λ r. IsWithin (queries_of r) (queries_at a (turns ++ (applied c b act o).turn ∷ []))) (sym (slice_get-set_other c.nodes b a (with_handed o.done.handed o.node) (eqb-false b a t)))
        (subst (IsWithin (queries_of (slice_get c.nodes a)))
        (sym (by-push entered a turns (applied c b act o).turn
        ∙ ap (λ x. queries_at a turns ++ cond x (entered_by (Of b act) (given_by c.sent act) o.done.answer) []) t
        ∙ append-nil (queries_at a turns))) (h.queries a))

pub after-acts : Below → (configs : List Config) (c : Cluster) (turns : List Turn) (b : ℕ) (act : Act) (m : IdealNode) → IsAfter configs c turns → CanTellIt configs (Of b act) → slice_get c.nodes b ≡ Some m
    → (let s = applied c b act (apply m c.sent act) in IsAfter configs s.cluster (turns ++ s.turn ∷ []))
after-acts lower configs c turns b act m h brings at =
    let representable = all-at (λ m. IsRepresentable m.agent) c.nodes b m h.representable at in
    after-applied configs c turns b act m (apply m c.sent act) h at (told-applied lower configs c turns b act m h brings at representable)
    (representable-apply lower m c.sent act (tells-at configs c turns b act m h brings at) representable) (keeps-apply lower m c.sent b act representable)

pub after-step : Below → (configs : List Config) (r : Run) (action : Action) → CanTellIt configs action → IsAfter configs r.cluster r.turns → IsAfter configs (after r action).cluster (after r action).turns
after-step lower configs r (Inject bytes) brings h = after-still configs r.cluster r.turns (injects r.cluster bytes) h (told-injected configs r.cluster bytes brings h.told) refl refl refl refl
after-step lower configs r (Of b act) brings h = by (slice_get r.cluster.nodes b) refl
  where
    by : (n : Option IdealNode) → slice_get r.cluster.nodes b ≡ n → (let s = on_agent r.cluster b act n in IsAfter configs s.cluster (r.turns ++ s.turn ∷ []))
    by None at = after-still configs r.cluster r.turns (on_agent r.cluster b act None) h h.told refl (sym (append-nil r.cluster.sent)) refl refl
    by (Some m) at = after-acts lower configs r.cluster r.turns b act m h brings at

-- ---- what a turn shows of its action

pub turn-action : (c : Cluster) (action : Action) → (step c action).turn.action ≡ action
turn-action c (Inject bytes) = refl
turn-action c (Of b act) = by (slice_get c.nodes b)
  where
    by : (r : Option IdealNode) → (on_agent c b act r).turn.action ≡ Of b act
    by None = refl
    by (Some m) = refl

pub turn-given : (c : Cluster) (action : Action) → (step c action).turn.given ≡ packet_given c.sent action
turn-given c action = step-cases (λ s. s.turn.given ≡ packet_given c.sent s.turn.action) c action (λ bytes. refl) (λ b act at. refl) (λ b act m is at. refl) ∙ ap (packet_given c.sent) (turn-action c action)

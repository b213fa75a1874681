-- What agents that keep their events don't miss, in every run. The laws hold of events and of queries: a record has
-- what differs between them.
use Rattle.serf_model.proofs.Names.{Bool, List, Some, [], ap, arith, false, inl, inr, refl, subst, sym, true, ℕ, ◌++◌, ◌+◌, ◌<◌, ◌∙◌, ◌∷◌, ◌≡◌, ◌≤◌, ◌⊎◌, eq-eqb, All-cons, All-contains, All-nil, Contains-append_left, Contains-push, fold_push, fold, All, Contains, slice_get, fresh_device, opened, TimedEntry, IsFull, IsMet, restarted_by, unopened, TakesAt, TakesOrFull, TakingLaws, TrackOf, Config, Below, Cluster, IdealNode, Run, after, applied, apply, first_node, start, step, with_handed, IsToCome, KeptOf, Showing, IsRepresentable, CanTellAct, Turn, actor_of, given_by, is_agent, turns_by, Act, Action, Of, NoAgent}
use Rattle.serf_model.specs.declared.line.Answer.TheVariants as lines
use Rattle.serf_model.proofs.RunLaws.{CanTellIt, IsAfter, all-at, settings-at, tells-at}
use Rattle.serf_model.proofs.StepCases.{step-cases}
use Rattle.serf_model.proofs.ClockShown.{AreLow}
use Rattle.serf_model.proofs.HistoryGrowth.{keeps-apply}
use Rattle.serf_model.proofs.LifeActs.{FitsAct, acts-keep}
use Rattle.serf_model.proofs.PerAgent.{EachIn, StaysBeside, each-start, each_in-step, turns-mine, turns-other}
use Rattle.serf_model.proofs.TakesKept.{IsFit, Shows, Wider, full-wider, goes-wider, taking}
use Rattle.serf_model.proofs.TurnLaws.{all-in, at_each_nil, at_each_push}

-- ---- what differs

-- what an agent has to accept is accepted in this turn, or its time is full
abbrev pub IsTaken : {K : Type 0} → Showing K → List Config → Config → ℕ → List Turn → Turn → TimedEntry K → Type 0
IsTaken shown configs c a before turn e = Contains (shown.taken turn) e ⊎ IsFull c.per_time e.time (shown.entered a (before ++ turn ∷ [])) (shown.tailed configs a before)

-- One of the two tracks of agents in runs, and what turns show of it.
pub record RunTrack (K : Type 0) : Type 1 where
  pub which : TrackOf K
  pub shown : Showing K
  pub laws : Below → TakingLaws which
  pub shows : (P : TimedEntry K → Type 0) → Shows which P
  -- how each turn of the agent raises its clock, which begins with 1
  pub next : ℕ → Turn → ℕ
  pub clock_is : (a : ℕ) (turns : List Turn) → shown.clock_of a turns ≡ fold next 1 (turns_by a turns)
  pub clock_goes : (c : Cluster) (b clock : ℕ) (act : Act) (m : IdealNode) → (which.track m.agent).clock ≤ clock → (let o = apply m c.sent act in (which.track o.node.agent).clock ≤ next clock (applied c b act o).turn)
  pub clock_begins : (config : Config) → (which.track (first_node config).agent).clock ≤ 1
  -- what was new to an agent, or was in its tails, remains so
  pub entered_more : (a : ℕ) (turns : List Turn) (turn : Turn) (e : TimedEntry K) → Contains (shown.entered a turns) e → Contains (shown.entered a (turns ++ turn ∷ [])) e
  pub tailed_more : (configs : List Config) (a : ℕ) (turns : List Turn) (turn : Turn) (e : TimedEntry K) → Contains (shown.tailed configs a turns) e → Contains (shown.tailed configs a (turns ++ turn ∷ [])) e
  pub begins : Below → (configs : List Config) (a : ℕ) (config : Config) (t : ℕ) → config.keep_events ≡ true → 0 < t → TakesOrFull which t config (shown.entered a []) (shown.tailed configs a []) (first_node config).agent
  -- if the agent's text has only entries that were met, all entries that a turn enters or restores are met afterwards
  pub Says : List Config → ℕ → List Turn → IdealNode → Type 0
  pub fits : Below → (configs : List Config) (c : Cluster) (turns : List Turn) (b : ℕ) (act : Act) (m : IdealNode) → IsAfter configs c turns → slice_get c.nodes b ≡ Some m → Says configs b turns m → m.agent.config.keep_events ≡ true → (t : ℕ)
      → (let turn = (applied c b act (apply m c.sent act)).turn in let P = IsMet (shown.entered b (turns ++ turn ∷ [])) (shown.tailed configs b (turns ++ turn ∷ [])) in
      shown.lowest m.agent.config turn ≤ t → FitsAct (IsFit which t P) (shows P).Handing m c.sent act)
  -- an agent accepts what it has to accept
  pub takes : Below → (configs : List Config) (c : Cluster) (turns : List Turn) (b : ℕ) (act : Act) (m : IdealNode) (e : TimedEntry K) → IsRepresentable m.agent → CanTellAct m.agent.config act (given_by c.sent act) → m.agent.config.keep_events ≡ true
      → TakesAt which e.time m.agent.config (shown.entered b turns) (shown.tailed configs b turns) m.agent → (which.track m.agent).clock ≤ shown.clock_of b turns
      → (let turn = (applied c b act (apply m c.sent act)).turn in
      next (shown.clock_of b turns) turn ≤ e.time + shown.slots m.agent.config → shown.lowest m.agent.config turn ≤ e.time → shown.hears turn.line.answer ≡ true → Contains (shown.given turn.given) e → IsToCome shown configs b m.agent.config turns turn e
      → IsTaken shown configs m.agent.config b turns turn e)
  pub nobody : shown.hears (lines.Refused NoAgent) ≡ true → ⊥

pub none-in : {K : Type 0} (e : TimedEntry K) → Contains [] e → ⊥
none-in e h = absurd (let lt = h.1 in omega arith)

pub only-in : {K : Type 0} (x e : TimedEntry K) → Contains (x ∷ []) e → e ≡ x
only-in {K} x e there = All-contains (λ (y : TimedEntry K). y ≡ x) (x ∷ []) e (All-cons (λ (y : TimedEntry K). y ≡ x) x [] refl (All-nil (λ (y : TimedEntry K). y ≡ x))) there

-- ---- what is true of an agent after its turns

pub record IsTaking {K : Type 0} (run : RunTrack K) (configs : List Config) (a : ℕ) (turns : List Turn) (m : IdealNode) : Type 0 where
  -- its clock is not higher than these turns show
  pub clock : (run.which.track m.agent).clock ≤ run.shown.clock_of a turns
  -- if it keeps its events, it accepts whatever arrives at a time that isn't below the minimums that these turns set
  pub takes : m.agent.config.keep_events ≡ true → (t : ℕ) → 0 < t → All (λ turn. run.shown.lowest m.agent.config turn ≤ t) (turns_by a turns) → TakesOrFull run.which t m.agent.config (run.shown.entered a turns) (run.shown.tailed configs a turns) m.agent

wider : {K : Type 0} (run : RunTrack K) (configs : List Config) (a : ℕ) (turns : List Turn) (turn : Turn)
    → Wider (run.shown.entered a turns) (run.shown.tailed configs a turns) (run.shown.entered a (turns ++ turn ∷ [])) (run.shown.tailed configs a (turns ++ turn ∷ []))
wider run configs a turns turn e (inl h) = inl (run.entered_more a turns turn e h)
wider run configs a turns turn e (inr h) = inr (run.tailed_more configs a turns turn e h)

-- a time that is full remains full
pub full-still : {K : Type 0} (shown : Showing K) (k t : ℕ) (configs : List Config) (a : ℕ) (turns : List Turn) (turn : Turn) → ((e : TimedEntry K) → Contains (shown.entered a turns) e → Contains (shown.entered a (turns ++ turn ∷ [])) e)
    → IsFull k t (shown.entered a turns) (shown.tailed configs a turns) → IsFull k t (shown.entered a (turns ++ turn ∷ [])) (shown.tailed configs a turns)
full-still {K} shown k t configs a turns turn more full = full-wider k t (shown.entered a turns) (shown.tailed configs a turns) (shown.entered a (turns ++ turn ∷ [])) (shown.tailed configs a turns) up full
  where
    up : Wider (shown.entered a turns) (shown.tailed configs a turns) (shown.entered a (turns ++ turn ∷ [])) (shown.tailed configs a turns)
    up e (inl h) = inl (more e h)
    up e (inr h) = inr h

-- what holds of each turn of an agent, after one more turn of this agent
told-own : (P : Turn → Type 0) (b : ℕ) (turns : List Turn) (turn : Turn) → is_agent b (actor_of turn.action) ≡ true → All P (turns_by b (turns ++ turn ∷ [])) → All P (turns_by b turns) × P turn
told-own P b turns turn mine told =
    let own : List Turn = turns_by b turns in
    let all : All P (turns_by b turns ++ turn ∷ []) = subst (All P) (turns-mine b turns turn mine) told in
    (all-in P own (λ x there. All-contains P (own ++ turn ∷ []) x all (Contains-append_left own (turn ∷ []) x there)), All-contains P (own ++ turn ∷ []) turn all (Contains-push own turn))

-- the clock that an agent's turns show after one more turn of this agent
clock-own : {K : Type 0} (run : RunTrack K) (b : ℕ) (turns : List Turn) (turn : Turn) → is_agent b (actor_of turn.action) ≡ true → run.shown.clock_of b (turns ++ turn ∷ []) ≡ run.next (run.shown.clock_of b turns) turn
clock-own run b turns turn mine =
    run.clock_is b (turns ++ turn ∷ []) ∙ ap (fold run.next 1) (turns-mine b turns turn mine) ∙ fold_push run.next 1 (turns_by b turns) turn ∙ ap (λ n. run.next n turn) (sym (run.clock_is b turns))

-- a turn of another agent
taking-other : {K : Type 0} (run : RunTrack K) (configs : List Config) → StaysBeside (IsTaking run configs)
taking-other run configs a turns turn m other h =
    let same = turns-other a turns turn other in
    record {
      clock = subst (λ (n : ℕ). (run.which.track m.agent).clock ≤ n) (run.clock_is a turns ∙ ap (fold run.next 1) (sym same) ∙ sym (run.clock_is a (turns ++ turn ∷ []))) h.clock;
      takes = λ keeps t some told.
          goes-wider run.which t m.agent.config (run.shown.entered a turns) (run.shown.tailed configs a turns) (run.shown.entered a (turns ++ turn ∷ [])) (run.shown.tailed configs a (turns ++ turn ∷ [])) m.agent (wider run configs a turns turn)
          (h.takes keeps t some (subst (All (λ turn. run.shown.lowest m.agent.config turn ≤ t)) same told));
    }

-- a turn of the agent itself
taking-acts : {K : Type 0} → Below → (run : RunTrack K) (configs : List Config) (c : Cluster) (turns : List Turn) (b : ℕ) (act : Act) (m : IdealNode) → IsAfter configs c turns → CanTellIt configs (Of b act) → slice_get c.nodes b ≡ Some m → run.Says configs b turns m
    → IsTaking run configs b turns m → (let o = apply m c.sent act in IsTaking run configs b (turns ++ (applied c b act o).turn ∷ []) (with_handed o.done.handed o.node))
taking-acts {K} lower run configs c turns b act m h tells at says before = record {
  clock = subst (λ (n : ℕ). (run.which.track (apply m c.sent act).node.agent).clock ≤ n) (sym (clock-own run b turns turn (eq-eqb b b refl))) (run.clock_goes c b (run.shown.clock_of b turns) act m before.clock);
  takes = λ keeps t some told.
      subst (λ (config : Config). TakesOrFull run.which t config (run.shown.entered b (turns ++ turn ∷ [])) (run.shown.tailed configs b (turns ++ turn ∷ [])) (apply m c.sent act).node.agent) (sym same)
      (goes (ap (λ (c : Config). c.keep_events) (sym same) ∙ keeps) t some (subst (λ (config : Config). All (λ turn. run.shown.lowest config turn ≤ t) (turns_by b (turns ++ turn ∷ []))) same told));
}
  where
    turn : Turn
    turn = (applied c b act (apply m c.sent act)).turn

    representable : IsRepresentable m.agent
    representable = all-at (λ m. IsRepresentable m.agent) c.nodes b m h.representable at

    same : (apply m c.sent act).node.agent.config ≡ m.agent.config
    same = (keeps-apply lower m c.sent b act representable).config

    goes : m.agent.config.keep_events ≡ true → (t : ℕ) → 0 < t → All (λ turn. run.shown.lowest m.agent.config turn ≤ t) (turns_by b (turns ++ turn ∷ []))
        → TakesOrFull run.which t m.agent.config (run.shown.entered b (turns ++ turn ∷ [])) (run.shown.tailed configs b (turns ++ turn ∷ [])) (apply m c.sent act).node.agent
    goes keeps t some all =
        let told = told-own (λ turn. run.shown.lowest m.agent.config turn ≤ t) b turns turn (eq-eqb b b refl) all in
        let H : List (TimedEntry K) = run.shown.entered b (turns ++ turn ∷ []) in
        let S : List (TimedEntry K) = run.shown.tailed configs b (turns ++ turn ∷ []) in
        (acts-keep lower (taking run.which lower (run.laws lower) t m.agent.config H S keeps some (run.shows (IsMet H S))) m c.sent act representable (tells-at configs c turns b act m h tells at) keeps
        (run.fits lower configs c turns b act m h at says keeps t told.1)
        (representable.durable keeps, goes-wider run.which t m.agent.config (run.shown.entered b turns) (run.shown.tailed configs b turns) H S m.agent (wider run configs b turns turn) (before.takes keeps t some told.0))).1

pub taking-step : {K : Type 0} → Below → (run : RunTrack K) (configs : List Config) (r : Run) (action : Action) → CanTellIt configs action → IsAfter configs r.cluster r.turns → EachIn (run.Says configs) r.cluster r.turns → EachIn (IsTaking run configs) r.cluster r.turns
    → EachIn (IsTaking run configs) (after r action).cluster (after r action).turns
taking-step lower run configs r action tells h says all =
    each_in-step (IsTaking run configs) r action (taking-other run configs) all (λ b act m is at. taking-acts lower run configs r.cluster r.turns b act m h (subst (CanTellIt configs) is tells) at (says b m at))

-- before the first turn
pub taking-start : {K : Type 0} → Below → (run : RunTrack K) (configs : List Config) → EachIn (IsTaking run configs) (start configs).cluster []
taking-start lower run configs = each-start (IsTaking run configs) configs (λ a config is. record {
  clock = subst (λ (n : ℕ). (run.which.track (first_node config).agent).clock ≤ n) (sym (run.clock_is a [])) (run.clock_begins config);
  takes = λ keeps t some told. run.begins lower configs a config t keeps some;
})

-- the clocks of events and of queries in a first life
pub first-low : (config : Config) → AreLow (first_node config).agent 1 1
first-low config = by config.keep_events
  where
    by : (b : Bool) → AreLow (restarted_by b [] (opened [] (fresh_device [])) (unopened config (opened [] (fresh_device [])))) 1 1
    by true = (omega arith, omega arith)
    by false = (omega arith, omega arith)

-- ---- what is promised

taken : {K : Type 0} → Below → (run : RunTrack K) (configs : List Config) (c : Cluster) (turns : List Turn) (b : ℕ) (act : Act) (m : IdealNode) (e : TimedEntry K) → IsRepresentable m.agent → CanTellAct m.agent.config act (given_by c.sent act) → IsTaking run configs b turns m
    → m.agent.config.keep_events ≡ true → (let turn = (applied c b act (apply m c.sent act)).turn in run.shown.hears turn.line.answer ≡ true → Contains (run.shown.given turn.given) e → IsToCome run.shown configs b m.agent.config turns turn e → IsTaken run.shown configs m.agent.config b turns turn e)
taken lower run configs c turns b act m e representable tells before keeps hears there come = by (before.takes keeps e.time come.some told.0)
  where
    turn : Turn
    turn = (applied c b act (apply m c.sent act)).turn

    told : All (λ turn. run.shown.lowest m.agent.config turn ≤ e.time) (turns_by b turns) × (run.shown.lowest m.agent.config (applied c b act (apply m c.sent act)).turn ≤ e.time)
    told = told-own (λ turn. run.shown.lowest m.agent.config turn ≤ e.time) b turns turn (eq-eqb b b refl) come.told

    by : TakesOrFull run.which e.time m.agent.config (run.shown.entered b turns) (run.shown.tailed configs b turns) m.agent → IsTaken run.shown configs m.agent.config b turns turn e
    by (inl takes) =
        let young = subst (λ (n : ℕ). n ≤ e.time + run.shown.slots m.agent.config) (clock-own run b turns turn (eq-eqb b b refl)) come.young in
        run.takes lower configs c turns b act m e representable tells keeps takes before.clock young told.1 hears there come
    by (inr full) = inr (full-still run.shown m.agent.config.per_time e.time configs b turns turn (run.entered_more b turns turn) full)

abbrev KeptAt : {K : Type 0} → Showing K → List Config → List Turn → Turn → Type 0
KeptAt {K} shown configs before turn =
    (a : ℕ) (c : Config) (e : TimedEntry K) → slice_get configs a ≡ Some c → c.keep_events ≡ true → actor_of turn.action ≡ Some a → shown.hears turn.line.answer ≡ true → Contains (shown.given turn.given) e → IsToCome shown configs a c before turn e → IsTaken shown configs c a before turn e

kept-acts : {K : Type 0} → Below → (run : RunTrack K) (configs : List Config) (c : Cluster) (turns : List Turn) (b : ℕ) (act : Act) (m : IdealNode) → IsAfter configs c turns → CanTellIt configs (Of b act) → slice_get c.nodes b ≡ Some m → EachIn (IsTaking run configs) c turns
    → KeptAt run.shown configs turns (applied c b act (apply m c.sent act)).turn
kept-acts lower run configs c turns b act m h tells at all a config e is keeps actor hears there come =
    let turn : Turn = (applied c b act (apply m c.sent act)).turn in
    let one : b ≡ a = cc actor in
    let own : slice_get configs b ≡ Some config = ap (slice_get configs) one ∙ is in
    let same : m.agent.config ≡ config = (let both : Some m.agent.config ≡ Some config = sym (settings-at configs c turns b m h at) ∙ own in cc both) in
    subst (λ (j : ℕ). IsToCome run.shown configs j config turns turn e → IsTaken run.shown configs config j turns turn e) one
    (subst (λ (x : Config). x.keep_events ≡ true → IsToCome run.shown configs b x turns turn e → IsTaken run.shown configs x b turns turn e) same
    (λ on to_come. taken lower run configs c turns b act m e (all-at (λ m. IsRepresentable m.agent) c.nodes b m h.representable at) (tells-at configs c turns b act m h tells at) (all b m at) on hears there to_come) keeps) come

pub kept-step : {K : Type 0} → Below → (run : RunTrack K) (configs : List Config) (r : Run) (action : Action) → CanTellIt configs action → IsAfter configs r.cluster r.turns → EachIn (IsTaking run configs) r.cluster r.turns → KeptOf run.shown configs r.turns
    → KeptOf run.shown configs (after r action).turns
kept-step lower run configs r action tells h taking all =
    at_each_push (KeptAt run.shown configs) r.turns (step r.cluster action).turn all
    (step-cases (λ s. KeptAt run.shown configs r.turns s.turn) r.cluster action (λ bytes a c e is keeps actor. absurd (cc actor)) (λ b act at a c e is keeps actor hears. absurd (run.nobody hears))
    (λ b act m is at. kept-acts lower run configs r.cluster r.turns b act m h (subst (CanTellIt configs) is tells) at taking))

pub kept-start : {K : Type 0} (run : RunTrack K) (configs : List Config) → KeptOf run.shown configs []
kept-start run configs = at_each_nil (KeptAt run.shown configs)

-- In every run, each agent accepts what arrives in its present life, whether it keeps its events or not.
use Rattle.serf_model.proofs.Names.{Bool, List, None, Option, Some, [], ap, arith, false, inl, inr, map, refl, subst, sym, true, ℕ, ◌&&◌, ◌++◌, ◌<◌, ◌==◌, ◌∙◌, ◌∷◌, ◌≡◌, ◌≤◌, ◌⊎◌, cases_lt, eq-eqb, eqb-false, eqb-true, ne_eqb, append-nil, All-nil, All-weaker, Contains-append_left, Contains-append_right, fold_push, fold, All, Contains, set, slice_get, EventBody, TimedEntry, count_at, texts_len, Past, of_life, Config, EventOut, Below, AreConfigs, events_of_life, is_restarted, Cluster, IdealNode, Run, after, applied, apply, first_node, injects, on_agent, start, step, with_handed, events_given, clock_then, event_clock_of, hears_of, min_written, query_clock_of, query_clock_then, IsRepresentable, Turn, actor_of, event_in, given_by, is_agent, turns_by, Act, Action, Of, Answer, NoAgent, CanTell, Contains-append_cases, Err, IdealAgent, MergeError, Message, Ok, Result, SinkError, WireError, cond, decoded, entered_by, events_of, hear, merge_refusal, merge_refusal_of, merges_as, merges_events, merges_given, merges_heard, planned, push_pull, run_of, ◌+◌}
use Rattle.serf_model.specs.declared.action.Act.TheVariants as acts
use Rattle.serf_model.specs.declared.line.Answer.TheVariants as lines
use Rattle.serf_model.specs.declared.line.Refusal.{Refusal}
use Rattle.serf_model.specs.declared.line.Refusal.TheVariants.{NoMessage, NotPushPull}
use Rattle.serf_model.specs.Taken.{IsDue, IsTimeFull, MergedIsHanded, Taken, WhyNot, below, event_minimum_of, full, minimum_then, refused, too_long, too_old}
use Rattle.serf_model.proofs.Arriving.{Coming, Comes, IsAll, IsOpenNow, acts-take, all-more}
use Rattle.serf_model.proofs.BoundLaws.{and-false, events-on, handed}
use Rattle.serf_model.proofs.ClockShown.{AreLow, clocks-apply}
use Rattle.serf_model.proofs.Effects.{effect, representable-apply}
use Rattle.serf_model.proofs.EventsNotMissed.{decide, lines-out}
use Rattle.serf_model.proofs.ExactClocks.{AreExact, exact-apply, first-exact}
use Rattle.serf_model.proofs.HistoryGrowth.{Keeps, keeps-apply}
use Rattle.serf_model.proofs.InvariantKept.{first-events}
use Rattle.serf_model.proofs.MinimumShown.{begins-by, minimum-on, shows}
use Rattle.serf_model.proofs.NotMissedLaws.{first-low, none-in, only-in}
use Rattle.serf_model.proofs.PerAgent.{joined-at, turns-mine, turns-other}
use Rattle.serf_model.proofs.PerTimeBound.{none-at, out_in, past}
use Rattle.serf_model.proofs.RunLaws.{CanTellIt, IsAfter, after-step, all-at, lines-other, lines-same, slice_get-set_other, slice_get-set_same, tell-each}
use Rattle.serf_model.proofs.StartLaws.{after-start}
use Rattle.serf_model.proofs.StepCases.{step-cases}
use Rattle.serf_model.proofs.TurnLaws.{at_each_nil, at_each_push, fold_keeps_at}

-- ---- folds over an agent's own turns

own-fold : {X : Type 0} (f : X → Turn → X) (x : X) (b : ℕ) (turns : List Turn) (turn : Turn) → is_agent b (actor_of turn.action) ≡ true → fold f x (turns_by b (turns ++ turn ∷ [])) ≡ f (fold f x (turns_by b turns)) turn
own-fold f x b turns turn mine = ap (fold f x) (turns-mine b turns turn mine) ∙ fold_push f x (turns_by b turns) turn

other-fold : {X : Type 0} (f : X → Turn → X) (x : X) (a : ℕ) (turns : List Turn) (turn : Turn) → is_agent a (actor_of turn.action) ≡ false → fold f x (turns_by a (turns ++ turn ∷ [])) ≡ fold f x (turns_by a turns)
other-fold f x a turns turn other = ap (fold f x) (turns-other a turns turn other)

-- a turn that opens no agent doesn't lower a minimum
minimum-up : (config : Config) (minimum : ℕ) (turn : Turn) → is_restarted turn.line.answer ≡ false → minimum ≤ minimum_then config minimum turn
minimum-up config minimum turn on = let shown = shows minimum (min_written config turn) turn.line.answer on in omega (arith, shown)

-- ---- what is true of an agent after its turns

pub record IsOpened (config : Config) (a : ℕ) (turns : List Turn) (m : IdealNode) : Type 0 where
  -- its clocks are not higher than these turns show
  pub low : AreLow m.agent (event_clock_of a turns) (query_clock_of a turns)
  -- while it isn't stopped, they are exactly these
  pub exact : AreExact m.agent (event_clock_of a turns) (query_clock_of a turns)
  -- it accepts what arrives at a time that isn't below the minimum
  pub opens : (t : ℕ) → event_minimum_of config a turns ≤ t → IsOpenNow t config (events_of_life a turns) m.agent

abbrev pub AreOpened : List Config → Cluster → List Turn → Type 0
AreOpened configs c turns = (a : ℕ) (config : Config) (m : IdealNode) → slice_get configs a ≡ Some config → slice_get c.nodes a ≡ Some m → IsOpened config a turns m

-- a turn that isn't the agent's own and hands it nothing
beside : (config : Config) (a : ℕ) (turns : List Turn) (turn : Turn) (m : IdealNode) → is_agent a (actor_of turn.action) ≡ false → handed a turn ≡ [] → IsOpened config a turns m → IsOpened config a (turns ++ turn ∷ []) m
beside config a turns turn m other none h =
    let events = other-fold clock_then 1 a turns turn other in
    let queries = other-fold query_clock_then 1 a turns turn other in
    let minimum = other-fold (minimum_then config) 1 a turns turn other in
    let life : events_of_life a (turns ++ turn ∷ []) ≡ events_of_life a turns =
    events-on a turns turn (ap (λ x. x && is_restarted turn.line.answer) other) ∙ ap (λ l. events_of_life a turns ++ l) none ∙ append-nil (events_of_life a turns) in
    record {
      low = (omega (arith, h.low.0, events), omega (arith, h.low.1, queries));
      exact = λ runs. let same = h.exact runs in (same.0 ∙ sym events, same.1 ∙ sym queries);
      opens = λ t above. subst (λ (l : List (TimedEntry EventBody)). IsOpenNow t config l m.agent) (sym life) (h.opens t (omega (arith, above, minimum)));
    }

-- a turn that opens the agent again: it has entered nothing of the times from its clock on
opened-again : Below → (config : Config) (c : Cluster) (turns : List Turn) (b : ℕ) (tail : List ℕ) (m : IdealNode) → IsRepresentable (apply m c.sent (acts.Restart tail)).node.agent → (apply m c.sent (acts.Restart tail)).node.agent.config ≡ config
    → (let o = apply m c.sent (acts.Restart tail) in IsOpened config b (turns ++ (applied c b (acts.Restart tail) o).turn ∷ []) (with_handed o.done.handed o.node))
opened-again lower config c turns b tail m representable settings = record { low = low; exact = λ runs. (sym (own-fold clock_then 1 b turns turn mine), sym (own-fold query_clock_then 1 b turns turn mine)); opens = opens }
  where
    turn : Turn
    turn = (applied c b (acts.Restart tail) (apply m c.sent (acts.Restart tail))).turn

    mine : is_agent b (actor_of turn.action) ≡ true
    mine = eq-eqb b b refl

    low : AreLow (apply m c.sent (acts.Restart tail)).node.agent (event_clock_of b (turns ++ turn ∷ [])) (query_clock_of b (turns ++ turn ∷ []))
    low =
        let events = own-fold clock_then 1 b turns turn mine in
        let queries = own-fold query_clock_then 1 b turns turn mine in
        (omega (arith, events), omega (arith, queries))

    opens : (t : ℕ) → event_minimum_of config b (turns ++ turn ∷ []) ≤ t → IsOpenNow t config (events_of_life b (turns ++ turn ∷ [])) (apply m c.sent (acts.Restart tail)).node.agent
    opens t above =
        let minimum = own-fold (minimum_then config) 1 b turns turn mine in
        let i = (apply m c.sent (acts.Restart tail)).node.agent in
        let late : i.events.clock ≤ t = omega (arith, above, minimum) in
        let sound = representable.consistent.sound.events in
        let least : i.events.minimum ≤ i.events.clock = sound.minimum in
        let earlier : All (λ p. p.entry.time < t) i.events.history = All-weaker (λ (p : Past EventBody). p.entry.time < i.events.clock) (λ (p : Past EventBody). p.entry.time < t) (λ p lt. omega (arith, lt, late)) i.events.history sound.below_clock in
        let none = none-at i.life t i.events.history earlier in
        record {
          settings = settings;
          minimum = omega (arith, least, late);
          known = All-weaker (λ (p : Past EventBody). p.entry.time < t) (λ (p : Past EventBody). p.entry.time ≡ t → Contains (events_of_life b (turns ++ turn ∷ [])) p.entry) (λ p lt is. absurd (omega (arith, lt, is))) i.events.history earlier;
          many = omega (arith, none);
        }

-- a turn of the agent that opens it no more
opened-on : Below → (config : Config) (c : Cluster) (turns : List Turn) (b : ℕ) (act : Act) (m : IdealNode) → IsRepresentable m.agent → is_restarted (apply m c.sent act).done.answer ≡ false → IsOpened config b turns m
    → (let o = apply m c.sent act in IsOpened config b (turns ++ (applied c b act o).turn ∷ []) (with_handed o.done.handed o.node))
opened-on lower config c turns b act m representable on h = record { low = low; exact = exact; opens = opens }
  where
    turn : Turn
    turn = (applied c b act (apply m c.sent act)).turn

    mine : is_agent b (actor_of turn.action) ≡ true
    mine = eq-eqb b b refl

    outs : List (TimedEntry EventBody)
    outs = map out_in (apply m c.sent act).done.events

    k : Keeps m.agent (apply m c.sent act).node.agent (apply m c.sent act).done (entered_by (Of b act) (given_by c.sent act) (apply m c.sent act).done.answer)
    k = keeps-apply lower m c.sent b act representable

    low : AreLow (apply m c.sent act).node.agent (event_clock_of b (turns ++ turn ∷ [])) (query_clock_of b (turns ++ turn ∷ []))
    low =
        let events = own-fold clock_then 1 b turns turn mine in
        let queries = own-fold query_clock_then 1 b turns turn mine in
        let both = clocks-apply m c.sent b (event_clock_of b turns) (query_clock_of b turns) act h.low in
        (omega (arith, events, both.0), omega (arith, queries, both.1))

    exact : AreExact (apply m c.sent act).node.agent (event_clock_of b (turns ++ turn ∷ [])) (query_clock_of b (turns ++ turn ∷ []))
    exact = λ runs.
        let same = exact-apply m c.sent b (event_clock_of b turns) (query_clock_of b turns) act h.exact runs in
        (same.0 ∙ sym (own-fold clock_then 1 b turns turn mine), same.1 ∙ sym (own-fold query_clock_then 1 b turns turn mine))

    first : IsOpenNow (event_minimum_of config b turns) config (events_of_life b turns) m.agent
    first = h.opens (event_minimum_of config b turns) (omega arith)

    life : events_of_life b (turns ++ turn ∷ []) ≡ events_of_life b turns ++ outs
    life = events-on b turns turn (ap (λ x. (b == b) && x) on ∙ and-false (b == b)) ∙ ap (λ l. events_of_life b turns ++ l) (lines-same b b (apply m c.sent act).done.events (eq-eqb b b refl))

    opens : (t : ℕ) → event_minimum_of config b (turns ++ turn ∷ []) ≤ t → IsOpenNow t config (events_of_life b (turns ++ turn ∷ [])) (apply m c.sent act).node.agent
    opens t above =
        let minimum = own-fold (minimum_then config) 1 b turns turn mine in
        let up = minimum-up config (event_minimum_of config b turns) turn on in
        let least : m.agent.events.minimum ≤ event_minimum_of config b turns = first.minimum in
        let under = minimum-on config c b (event_minimum_of config b turns) act m first.settings least on in
        let before = h.opens t (omega (arith, above, minimum, up)) in
        let enters = k.events on in
        let same : (apply m c.sent act).node.agent.life ≡ m.agent.life = k.life ∙ ap (λ x. cond x (m.agent.life + 1) m.agent.life) on in
        let all : IsAll t m.agent.life (events_of_life b turns ++ outs) (m.agent.events.history ++ map (past m.agent.life) outs) = all-more t m.agent.life (events_of_life b turns) outs m.agent.events.history (record { known = before.known; many = before.many }) in
        let grown : IsAll t m.agent.life (events_of_life b turns ++ outs) (apply m c.sent act).node.agent.events.history = subst (IsAll t m.agent.life (events_of_life b turns ++ outs)) (sym enters.grows) all in
        subst (λ (l : List (TimedEntry EventBody)). IsOpenNow t config l (apply m c.sent act).node.agent) (sym life) (record {
          settings = k.config ∙ first.settings;
          minimum = omega (arith, above, minimum, under);
          known = grown.known;
          many = subst (λ (n : ℕ). count_at (of_life n (apply m c.sent act).node.agent.events.history) t ≤ count_at (events_of_life b turns ++ outs) t) (sym same) grown.many;
        })

-- a turn of the agent itself
opened-acts : Below → (configs : List Config) (config : Config) (c : Cluster) (turns : List Turn) (b : ℕ) (act : Act) (m : IdealNode) → IsAfter configs c turns → CanTellIt configs (Of b act) → slice_get c.nodes b ≡ Some m → IsOpened config b turns m
    → (let o = apply m c.sent act in IsOpened config b (turns ++ (applied c b act o).turn ∷ []) (with_handed o.done.handed o.node))
opened-acts lower configs config c turns b act m is tells at h = elim (begins-by m (Of b act) (given_by c.sent act) (apply m c.sent act) (effect lower m c.sent b act)) [
  | inl on ↦ opened-on lower config c turns b act m representable on h
  | inr anew ↦
      let same : acts.Restart anew.1 ≡ act = cc anew.2 in
      subst (λ (act : Act). (let o = apply m c.sent act in IsOpened config b (turns ++ (applied c b act o).turn ∷ []) (with_handed o.done.handed o.node))) same
      (opened-again lower config c turns b anew.1 m (representable-apply lower m c.sent (acts.Restart anew.1) (λ keeps. (tt, All-nil _)) representable) (h.opens (event_minimum_of config b turns) (omega arith)).settings)
]
  where
    representable : IsRepresentable m.agent
    representable = all-at (λ m. IsRepresentable m.agent) c.nodes b m is.representable at

opened-applied : Below → (configs : List Config) (c : Cluster) (turns : List Turn) (b : ℕ) (act : Act) (m : IdealNode) → IsAfter configs c turns → CanTellIt configs (Of b act) → slice_get c.nodes b ≡ Some m → AreOpened configs c turns
    → (let s = applied c b act (apply m c.sent act) in AreOpened configs s.cluster (turns ++ s.turn ∷ []))
opened-applied lower configs c turns b act m is tells at all a config n set_at found = by (b == a) refl
  where
    turn : Turn
    turn = (applied c b act (apply m c.sent act)).turn

    new : IdealNode
    new = with_handed (apply m c.sent act).done.handed (apply m c.sent act).node

    by : (t : Bool) → (b == a) ≡ t → IsOpened config a (turns ++ (applied c b act (apply m c.sent act)).turn ∷ []) n
    by true t =
        let same : b ≡ a = eqb-true b a t in
        let both : Some new ≡ Some n = sym (slice_get-set_same c.nodes b m new at) ∙ ap (slice_get (set c.nodes b new)) same ∙ found in
        let here : new ≡ n = cc both in
        let own = opened-acts lower configs config c turns b act m is tells at (all b config m (ap (slice_get configs) same ∙ set_at) at) in
        subst (λ (j : ℕ). IsOpened config j (turns ++ turn ∷ []) n) same (subst (IsOpened config b (turns ++ turn ∷ [])) here own)
    by false t =
        beside config a turns turn n t (lines-other a b (apply m c.sent act).done.events t) (all a config n set_at (sym (slice_get-set_other c.nodes b a new (eqb-false b a t)) ∙ found))

pub opened-step : Below → (configs : List Config) (r : Run) (action : Action) → CanTellIt configs action → IsAfter configs r.cluster r.turns → AreOpened configs r.cluster r.turns → AreOpened configs (after r action).cluster (after r action).turns
opened-step lower configs r action tells is all =
    step-cases (λ s. AreOpened configs s.cluster (r.turns ++ s.turn ∷ [])) r.cluster action (λ bytes a config m set_at at. beside config a r.turns (injects r.cluster bytes).turn m refl refl (all a config m set_at at))
    (λ b act none a config m set_at at.
    beside config a r.turns (on_agent r.cluster b act None).turn m (ne_eqb b a (λ e. let no : None ≡ Some m = sym none ∙ ap (slice_get r.cluster.nodes) e ∙ at in cc)) refl (all a config m set_at at))
    (λ b act m of at. opened-applied lower configs r.cluster r.turns b act m is (subst (CanTellIt configs) of tells) at all)

pub opened-start : Below → (configs : List Config) → AreConfigs configs → AreOpened configs (start configs).cluster []
opened-start lower configs ok a config m set_at at = subst (IsOpened config a []) first (record { low = first-low config; exact = first-exact config; opens = opens })
  where
    first : first_node config ≡ m
    first =
        let j = joined-at configs a m at in
        let both : Some j.0 ≡ Some config = sym j.1 ∙ set_at in
        let same : j.0 ≡ config = cc both in
        ap first_node (sym same) ∙ j.2

    representable : IsRepresentable (first_node config).agent
    representable = subst (λ (n : IdealNode). IsRepresentable n.agent) (sym first) (all-at (λ m. IsRepresentable m.agent) (start configs).cluster.nodes a m (after-start lower configs ok).representable at)

    opens : (t : ℕ) → 1 ≤ t → IsOpenNow t config [] (first_node config).agent
    opens t above =
        let low = (first-low config).0 in
        let least : (first_node config).agent.events.minimum ≤ (first_node config).agent.events.clock = representable.consistent.sound.events.minimum in
        record {
          settings = refl;
          minimum = omega (arith, above, low, least);
          known = subst (All (λ (p : Past EventBody). p.entry.time ≡ t → Contains [] p.entry)) (sym (first-events config)) (All-nil (λ (p : Past EventBody). p.entry.time ≡ t → Contains [] p.entry));
          many = subst (λ (h : List (Past EventBody)). count_at (of_life (first_node config).agent.life h) t ≤ 0) (sym (first-events config)) (omega arith);
        }

-- ---- what is promised

-- an agent that processes a packet isn't opened again
hears-life : (answer : Answer) → hears_of answer ≡ true → is_restarted answer ≡ false
hears-life (lines.Restarted member_clock event_clock query_clock) hears = absurd (cc hears)
hears-life _ hears = refl

-- what is handed out in a turn of the agent's life is added to what was handed to it in this life
life-more : (c : Cluster) (turns : List Turn) (b : ℕ) (act : Act) (m : IdealNode) → is_restarted (apply m c.sent act).done.answer ≡ false
    → (let turn = (applied c b act (apply m c.sent act)).turn in events_of_life b (turns ++ turn ∷ []) ≡ events_of_life b turns ++ map event_in turn.line.events)
life-more c turns b act m on =
    let turn : Turn = (applied c b act (apply m c.sent act)).turn in
    let outs : List EventOut = (apply m c.sent act).done.events in
    events-on b turns turn (ap (λ x. (b == b) && x) on ∙ and-false (b == b)) ∙ ap (λ l. events_of_life b turns ++ l) (lines-same b b outs (eq-eqb b b refl) ∙ sym (lines-out b outs))

abbrev IsTakenAt : ℕ → Config → List Turn → Turn → TimedEntry EventBody → Type 0
IsTakenAt a c before turn e = hears_of turn.line.answer ≡ true → Contains (events_given turn.given) e → IsDue a c before turn e → Contains (map event_in turn.line.events) e ⊎ IsTimeFull a c (before ++ turn ∷ []) e.time

taken-acts : (config : Config) (c : Cluster) (turns : List Turn) (b : ℕ) (act : Act) (m : IdealNode) (e : TimedEntry EventBody) → IsOpened config b turns m → IsTakenAt b config turns (applied c b act (apply m c.sent act)).turn e
taken-acts config c turns b act m e h hears there come = comes (acts-take g m c.sent b (event_clock_of b turns) act (events_of_life b turns) h.low.0 young lowest there come.new (h.opens e.time above) hears)
  where
    turn : Turn
    turn = (applied c b act (apply m c.sent act)).turn

    mine : is_agent b (actor_of turn.action) ≡ true
    mine = eq-eqb b b refl

    on : is_restarted turn.line.answer ≡ false
    on = hears-life turn.line.answer hears

    g : Coming
    g = record { event = e; config = config; short = come.short }

    settings : m.agent.config ≡ config
    settings = (h.opens (event_minimum_of config b turns) (omega arith)).settings

    young : clock_then (event_clock_of b turns) turn ≤ e.time + config.event_buffer
    young = subst (λ (n : ℕ). n ≤ e.time + config.event_buffer) (own-fold clock_then 1 b turns turn mine) come.young

    least : minimum_then config (event_minimum_of config b turns) turn ≤ e.time
    least = subst (λ (n : ℕ). n ≤ e.time) (own-fold (minimum_then config) 1 b turns turn mine) come.above

    above : event_minimum_of config b turns ≤ e.time
    above = let up = minimum-up config (event_minimum_of config b turns) turn on in omega (arith, up, least)

    lowest : min_written m.agent.config turn ≤ e.time
    lowest = let shown = shows (event_minimum_of config b turns) (min_written config turn) turn.line.answer on in subst (λ (x : Config). min_written x turn ≤ e.time) (sym settings) (omega (arith, shown, least))

    comes : Comes g (events_of_life b turns) (apply m c.sent act).done.events → Contains (map event_in turn.line.events) e ⊎ IsTimeFull b config (turns ++ turn ∷ []) e.time
    comes (inl found) = inl (subst (λ (l : List (TimedEntry EventBody)). Contains l e) (sym (lines-out b (apply m c.sent act).done.events)) found)
    comes (inr many) =
        let life : events_of_life b (turns ++ turn ∷ []) ≡ events_of_life b turns ++ map out_in (apply m c.sent act).done.events =
        life-more c turns b act m on ∙ ap (λ l. events_of_life b turns ++ l) (lines-out b (apply m c.sent act).done.events) in
        inr (subst (λ (l : List (TimedEntry EventBody)). config.per_time ≤ count_at l e.time) (sym life) many)

-- ---- merges

is-in : (es : List (TimedEntry EventBody)) (e : TimedEntry EventBody) → Contains es e ⊎ (Contains es e → ⊥)
is-in [] e = inr (none-in e)
is-in (x ∷ es) e = elim (decide x e) [
  | inl same ↦ inl (0, omega arith, same)
  | inr differs ↦ elim (is-in es e) [
    | inl there ↦ inl (Contains-append_right (x ∷ []) es e there)
    | inr none ↦ inr (λ h. elim (Contains-append_cases (x ∷ []) es e h) [
      | inl first ↦ differs (sym (only-in x e first))
      | inr more ↦ none more
    ])
  ]
]

-- a merge succeeds, or is refused
merges-answer : (m : IdealNode) (join : Bool) (given : Option (List ℕ)) → ((merges_given m join given).done.answer ≡ lines.Merged) ⊎ ((why : Refusal) × ((merges_given m join given).done.answer ≡ lines.Refused why))
merges-answer m join None = inr (NoMessage, refl)
merges-answer m join (Some packet) = by (merge_refusal m.agent.snapshot (decoded packet)) (decoded packet)
  where
    failed : (b : Bool) → (cond b (lines.Refused SinkError) lines.Merged ≡ lines.Merged) ⊎ ((why : Refusal) × (cond b (lines.Refused SinkError) lines.Merged ≡ lines.Refused why))
    failed true = inr (SinkError, refl)
    failed false = inl refl

    heard : (es : List (TimedEntry EventBody)) (i : IdealAgent) (x : Result (Unit {0}) MergeError)
        → (let o = merges_heard m es (record { agent = i; answer = x }) in (o.done.answer ≡ lines.Merged) ⊎ ((why : Refusal) × (o.done.answer ≡ lines.Refused why)))
    heard es i (Ok done) = failed (merges_events es i).failed
    heard es i (Err error) = inr (merge_refusal_of error, refl)

    by : (f : Option MergeError) (r : Result Message WireError) → ((merges_as f m join r).done.answer ≡ lines.Merged) ⊎ ((why : Refusal) × ((merges_as f m join r).done.answer ≡ lines.Refused why))
    by None (Ok (push_pull s)) = heard (events_of s.slots) (planned m.agent (hear m.agent s join)).agent (planned m.agent (hear m.agent s join)).answer
    by (Some error) r = inr (merge_refusal_of error, refl)
    by None _ = inr (NotPushPull, refl)

abbrev IsMergedAt : ℕ → Config → List Turn → Turn → TimedEntry EventBody → Type 0
IsMergedAt a c before turn e = Contains (events_of_life a (before ++ turn ∷ [])) e ⊎ WhyNot a c before turn e

-- an event of a state that was merged was handed out, or there is a reason
merged-taken : (a : ℕ) (c : Config) (before : List Turn) (turn : Turn) (e : TimedEntry EventBody) → hears_of turn.line.answer ≡ true → Contains (events_given turn.given) e → IsTakenAt a c before turn e
    → events_of_life a (before ++ turn ∷ []) ≡ events_of_life a before ++ map event_in turn.line.events → IsMergedAt a c before turn e
merged-taken a c before turn e hears there takes life = elim (cases_lt 9216 (texts_len e.key)) [
  | inl long ↦ inr (too_long long)
  | inr short ↦ elim (cases_lt (e.time + c.event_buffer) (event_clock_of a (before ++ turn ∷ []))) [
    | inl old ↦ inr (too_old old)
    | inr young ↦ elim (cases_lt e.time (event_minimum_of c a (before ++ turn ∷ []))) [
      | inl low ↦ inr (below low)
      | inr above ↦ elim (is-in (events_of_life a before) e) [
        | inl before_it ↦ inl (subst (λ (l : List (TimedEntry EventBody)). Contains l e) (sym life) (Contains-append_left (events_of_life a before) (map event_in turn.line.events) e before_it))
        | inr new ↦ by (takes hears there (record { short = short; young = young; above = above; new = new }))
      ]
    ]
  ]
]
  where
    by : Contains (map event_in turn.line.events) e ⊎ IsTimeFull a c (before ++ turn ∷ []) e.time → IsMergedAt a c before turn e
    by (inl now) = inl (subst (λ (l : List (TimedEntry EventBody)). Contains l e) (sym life) (Contains-append_right (events_of_life a before) (map event_in turn.line.events) e now))
    by (inr many) = inr (full many)

merged-acts : (config : Config) (c : Cluster) (turns : List Turn) (b number : ℕ) (join : Bool) (m : IdealNode) (e : TimedEntry EventBody) → IsOpened config b turns m
    → (let turn = (applied c b (acts.Merge number join) (apply m c.sent (acts.Merge number join))).turn in Contains (events_given turn.given) e → IsMergedAt b config turns turn e)
merged-acts config c turns b number join m e h there = by (merges-answer m join (slice_get c.sent number))
  where
    turn : Turn
    turn = (applied c b (acts.Merge number join) (apply m c.sent (acts.Merge number join))).turn

    by : (turn.line.answer ≡ lines.Merged) ⊎ ((why : Refusal) × (turn.line.answer ≡ lines.Refused why)) → IsMergedAt b config turns turn e
    by (inl merged) =
        let hears : hears_of turn.line.answer ≡ true = ap hears_of merged in
        merged-taken b config turns turn e hears there (taken-acts config c turns b (acts.Merge number join) m e h) (life-more c turns b (acts.Merge number join) m (hears-life turn.line.answer hears))
    by (inr why) = inr (refused why.0 why.1)

-- ---- a run

abbrev TakenAt : List Config → List Turn → Turn → Type 0
TakenAt configs before turn = (a : ℕ) (c : Config) (e : TimedEntry EventBody) → slice_get configs a ≡ Some c → actor_of turn.action ≡ Some a → IsTakenAt a c before turn e

abbrev MergedAt : List Config → List Turn → Turn → Type 0
MergedAt configs before turn = (a number : ℕ) (join : Bool) (c : Config) (e : TimedEntry EventBody) → slice_get configs a ≡ Some c → turn.action ≡ Of a (acts.Merge number join) → Contains (events_given turn.given) e → IsMergedAt a c before turn e

taken-turn : (configs : List Config) (c : Cluster) (turns : List Turn) (action : Action) → AreOpened configs c turns → TakenAt configs turns (step c action).turn
taken-turn configs c turns action all =
    step-cases (λ s. TakenAt configs turns s.turn) c action (λ bytes a config e set_at actor hears. absurd (cc hears)) (λ b act none a config e set_at actor hears. absurd (cc hears))
    (λ b act m of at a config e set_at actor. let same : b ≡ a = cc actor in
    subst (λ (j : ℕ). IsTakenAt j config turns (applied c b act (apply m c.sent act)).turn e) same (taken-acts config c turns b act m e (all b config m (ap (slice_get configs) same ∙ set_at) at)))

merged-turn : (configs : List Config) (c : Cluster) (turns : List Turn) (action : Action) → AreOpened configs c turns → MergedAt configs turns (step c action).turn
merged-turn configs c turns action all =
    step-cases (λ s. MergedAt configs turns s.turn) c action (λ bytes a number join config e set_at is. absurd (cc is)) (λ b act none a number join config e set_at is there. inr (refused NoAgent refl))
    (λ b act m of at a number join config e set_at is there. by b act m at a number join config e set_at is there)
  where
    by : (b : ℕ) (act : Act) (m : IdealNode) → slice_get c.nodes b ≡ Some m → (a number : ℕ) (join : Bool) (config : Config) (e : TimedEntry EventBody) → slice_get configs a ≡ Some config → Of b act ≡ Of a (acts.Merge number join)
        → (let turn = (applied c b act (apply m c.sent act)).turn in Contains (events_given turn.given) e → IsMergedAt a config turns turn e)
    by b act m at a number join config e set_at is =
        let who : b ≡ a = cc is in
        let same : acts.Merge number join ≡ act = cc is in
        let h : IsOpened config b turns m = all b config m (ap (slice_get configs) who ∙ set_at) at in
        subst (λ (j : ℕ). (let turn = (applied c b act (apply m c.sent act)).turn in Contains (events_given turn.given) e → IsMergedAt j config turns turn e)) who
        (subst (λ (act : Act). (let turn = (applied c b act (apply m c.sent act)).turn in Contains (events_given turn.given) e → IsMergedAt b config turns turn e)) same (merged-acts config c turns b number join m e h))

-- what each action preserves
pub record IsTakingOn (configs : List Config) (r : Run) : Type 0 where
  pub after : IsAfter configs r.cluster r.turns
  pub opened : AreOpened configs r.cluster r.turns
  pub taken : Taken configs r.turns
  pub merged : MergedIsHanded configs r.turns

pub taking-run : Below → (configs : List Config) (actions : List Action) → AreConfigs configs → CanTell configs actions → IsTakingOn configs (run_of configs actions)
taking-run lower configs actions ok told =
    fold_keeps_at (IsTakingOn configs) (CanTellIt configs) after (start configs) actions
    (record { after = after-start lower configs ok; opened = opened-start lower configs ok; taken = at_each_nil (TakenAt configs); merged = at_each_nil (MergedAt configs) }) (tell-each configs actions told)
    (λ r action tells h. record {
      after = after-step lower configs r action tells h.after;
      opened = opened-step lower configs r action tells h.after h.opened;
      taken = at_each_push (TakenAt configs) r.turns (step r.cluster action).turn h.taken (taken-turn configs r.cluster r.turns action h.opened);
      merged = at_each_push (MergedAt configs) r.turns (step r.cluster action).turn h.merged (merged-turn configs r.cluster r.turns action h.opened);
    })

-- What is ignored as seen was handed to the agent before.
use Rattle.serf_model.proofs.Names.{Bool, List, None, Ok, Option, Some, [], ap, arith, cond, false, inl, inr, map, nat_le, nat_lt, refl, subst, suc, sym, true, ℕ, ◌&&◌, ◌++◌, ◌+◌, ◌==◌, ◌||◌, ◌∙◌, ◌∷◌, ◌≡◌, ◌⊎◌, and_parts, eq-eqb, eqb-true, All-contains, All-contains_itself, All-map, All-weaker, Contains-append_left, Contains-append_right, bytes_eq-Decides, filter, list_any, All, Contains, slice_get, observed, decoded, UserEvent, user_event, EventBody, event_of, same_texts, TimedEntry, count_at, admission, texts_len, IdealAgent, Past, of_life, was_ever_entered, Config, EventOut, Reason, BelowMinimum, Seen, TimeFull, TooOld, Below, Applied, Cluster, IdealNode, Run, after, applied, apply, event_line, start, step, SeenWasHanded, SeenWasHandedOrTailed, IsRepresentable, NoneKeeps, tailed_by, tailed_in, tails_to, Turn, actor_of, event_in, events_to, given_by, is_agent, turns_by, Act, Action, Of, EventLine}
use Rattle.serf_model.specs.declared.line.Answer.TheVariants as lines
use Rattle.serf_model.proofs.Effects.{Effect, IsIdle, counts, effect, hears}
use Rattle.serf_model.proofs.StepCases.{step-cases}
use Rattle.serf_model.proofs.TurnLaws.{all-in, at_each_nil, at_each_push}
use Rattle.serf_model.proofs.PerTimeBound.{entries, out_in}
use Rattle.serf_model.proofs.FiredLaws.{in-none, no-tails, tailed-is}
use Rattle.serf_model.proofs.HistoryGrowth.{Says, says-more}
use Rattle.serf_model.proofs.PerAgent.{by-more, by-now, each-start, each_in-step}
use Rattle.serf_model.proofs.RunLaws.{CanTellIt, IsAfter, all-at, events_to-push, lines-same, settings-at, tells-at}
use Rattle.serf_model.proofs.Spreading.{says-weaker}
use Rattle.serf_model.proofs.StartLaws.{says-first}

-- ---- what was entered

pub same-texts : (a b : EventBody) → same_texts a b ≡ true → a ≡ b
same-texts a b same =
    let parts = and_parts _ _ same in
    let name = (bytes_eq-Decides a.name b.name).0 parts.0 in
    let payload = (bytes_eq-Decides a.payload b.payload).0 parts.1 in
    λ k. record { name = name k; payload = payload k }

contains-head : {X : Type 0} (x : X) (xs : List X) → Contains (x ∷ xs) x
contains-head x xs = (0, omega arith, refl)

contains-tail : {X : Type 0} (x y : X) (xs : List X) → Contains xs y → Contains (x ∷ xs) y
contains-tail x y xs h = (suc h.0, omega (arith, h.1), h.2)

entered-contains : (h : List (Past EventBody)) (t : ℕ) (what : EventBody) → was_ever_entered same_texts h t what ≡ true → Contains (entries h) (record { time = t; key = what })
entered-contains [] t what e = absurd (cc e)
entered-contains (p ∷ ps) t what e = by ((p.entry.time == t) && same_texts p.entry.key what) refl e (entered-contains ps t what)
  where
    by : (b : Bool) → ((p.entry.time == t) && same_texts p.entry.key what) ≡ b → (b || list_any (λ (p : Past EventBody). (p.entry.time == t) && same_texts p.entry.key what) ps) ≡ true
        → (was_ever_entered same_texts ps t what ≡ true → Contains (entries ps) (record { time = t; key = what })) → Contains (entries (p ∷ ps)) (record { time = t; key = what })
    by true is e rest =
        let parts = and_parts _ _ is in
        let time : p.entry.time ≡ t = eqb-true _ _ parts.0 in
        let texts : p.entry.key ≡ what = same-texts p.entry.key what parts.1 in
        let same : p.entry ≡ record { time = t; key = what } = λ k. record { time = time k; key = texts k } in
        subst (Contains (entries (p ∷ ps))) same (contains-head p.entry (entries ps))
    by false is e rest = contains-tail p.entry (record { time = t; key = what }) (entries ps) (rest e)

-- the reason is that of the first test that applies
reason-skips : (b : Bool) (other : Reason) (r : Option Reason) → (Some other ≡ Some Seen → ⊥) → cond b (Some other) r ≡ Some Seen → r ≡ Some Seen
reason-skips true other r differs e = absurd (differs e)
reason-skips false other r differs e = e

seen-entered : (i : IdealAgent) (t : ℕ) (what : EventBody) → admission i t what ≡ Some Seen → was_ever_entered same_texts i.events.history t what ≡ true
seen-entered i t what e =
    let track = reason-skips (nat_lt 9216 (texts_len what)) _ _ (λ d. cc) e in
    let minimum = reason-skips (nat_lt t i.events.minimum) BelowMinimum _ (λ d. cc) track in
    let old = reason-skips (nat_lt (t + i.config.event_buffer) (observed i.events.clock t)) TooOld _ (λ d. cc) minimum in
    by (was_ever_entered same_texts i.events.history t what) (nat_le i.config.per_time (count_at (of_life i.life i.events.history) t)) old
  where
    by : (b full : Bool) → cond b (Some Seen) (cond full (Some TimeFull) None) ≡ Some Seen → b ≡ true
    by true full e = refl
    by false true e = absurd (cc e)
    by false false e = absurd (cc e)

-- ---- which actions ignore something as seen

seen-effect : (m : IdealNode) (action : Action) (given : Option (List ℕ)) (o : Applied) → Effect m action given o → (packet : List ℕ) (e : UserEvent) → o.done.answer ≡ lines.Ignored Seen → given ≡ Some packet → decoded packet ≡ Ok (user_event e)
    → admission m.agent e.time (event_of e.name e.payload) ≡ Some Seen
seen-effect m action given o (hears j outs answer heard idle) packet e says is reads = (subst (IsIdle m.agent given) says idle) packet e is reads
seen-effect m action given o (counts to number now p r q true at same none kind) packet e says is reads = absurd (cc says)
seen-effect m action given o _ packet e says is reads = absurd (cc says)

-- ---- where the event is from

-- the event was handed to this agent, or was in a tail on which the agent was opened
abbrev pub WasHere : List Config → ℕ → List Turn → TimedEntry EventBody → Type 0
WasHere configs a turns e = Contains (events_to a turns) e ⊎ Contains (tails_to configs a turns) e

-- this holds of everything that an agent has entered, and of everything in its text
abbrev pub IsHere : List Config → Cluster → List Turn → Type 0
IsHere configs c turns = (a : ℕ) (m : IdealNode) → slice_get c.nodes a ≡ Some m → Says (WasHere configs a turns) m.agent

pub to-more : (a : ℕ) (turns : List Turn) (turn : Turn) (e : TimedEntry EventBody) → Contains (events_to a turns) e → Contains (events_to a (turns ++ turn ∷ [])) e
to-more a turns turn e h =
    subst (λ (l : List (TimedEntry EventBody)). Contains l e) (sym (events_to-push a turns turn)) (Contains-append_left (events_to a turns) (map event_in (filter (λ (e : EventLine). e.agent == a) turn.line.events)) e h)

pub here-more : (configs : List Config) (a : ℕ) (turns : List Turn) (turn : Turn) (e : TimedEntry EventBody) → WasHere configs a turns e → WasHere configs a (turns ++ turn ∷ []) e
here-more configs a turns turn e (inl h) = inl (to-more a turns turn e h)
here-more configs a turns turn e (inr h) = inr (by-more (tailed_in configs) a turns turn e h)

-- what a turn hands out, and what its agent restores from its tail, if it restores that
pub outs-here : (configs : List Config) (b : ℕ) (turns : List Turn) (turn : Turn) (outs : List EventOut) → turn.line.events ≡ map (event_line b) outs → All (WasHere configs b (turns ++ turn ∷ [])) (map out_in outs)
outs-here configs b turns turn outs is =
    let es : List (TimedEntry EventBody) = map out_in outs in
    let mine : map event_in (filter (λ (e : EventLine). e.agent == b) turn.line.events) ≡ es =
    ap (λ l. map event_in (filter (λ (e : EventLine). e.agent == b) l)) is ∙ lines-same b b outs (eq-eqb b b refl) in
    All-weaker (Contains es) (WasHere configs b (turns ++ turn ∷ []))
    (λ e h. inl (subst (λ (l : List (TimedEntry EventBody)). Contains l e) (sym (events_to-push b turns turn ∙ ap (λ l. events_to b turns ++ l) mine)) (Contains-append_right (events_to b turns) es e h))) es (All-contains_itself es)

pub tail-here : (configs : List Config) (b : ℕ) (turns : List Turn) (turn : Turn) → actor_of turn.action ≡ Some b → tailed_in configs turn ≡ tailed_by turn.action → All (WasHere configs b (turns ++ turn ∷ [])) (tailed_by turn.action)
tail-here configs b turns turn actor is =
    let mine : is_agent b (actor_of turn.action) ≡ true = ap (is_agent b) actor ∙ eq-eqb b b refl in
    all-in (WasHere configs b (turns ++ turn ∷ [])) (tailed_by turn.action) (λ e h. inr (by-now (tailed_in configs) b turns turn e mine (subst (λ (l : List (TimedEntry EventBody)). Contains l e) (sym is) h)))

here-acts : Below → (configs : List Config) (c : Cluster) (turns : List Turn) (b : ℕ) (act : Act) (m : IdealNode) → IsAfter configs c turns → CanTellIt configs (Of b act) → slice_get c.nodes b ≡ Some m → Says (WasHere configs b turns) m.agent
    → (let o = apply m c.sent act in Says (WasHere configs b (turns ++ (applied c b act o).turn ∷ [])) o.node.agent)
here-acts lower configs c turns b act m h tells at says =
    let o : Applied = apply m c.sent act in
    let turn : Turn = (applied c b act (apply m c.sent act)).turn in
    let P : TimedEntry EventBody → Type 0 = WasHere configs b (turns ++ turn ∷ []) in
    let representable = all-at (λ m. IsRepresentable m.agent) c.nodes b m h.representable at in
    says-more lower P m c.sent b act representable (tells-at configs c turns b act m h tells at) (says-weaker (WasHere configs b turns) P m.agent (here-more configs b turns turn) says)
    (outs-here configs b turns turn o.done.events refl)
    (λ keeping. tail-here configs b turns turn refl (tailed-is configs b m.agent.config turn refl (settings-at configs c turns b m h at) keeping))

pub here-step : Below → (configs : List Config) (r : Run) (action : Action) → CanTellIt configs action → IsAfter configs r.cluster r.turns → IsHere configs r.cluster r.turns → IsHere configs (after r action).cluster (after r action).turns
here-step lower configs r action tells h here =
    each_in-step (λ a turns m. Says (WasHere configs a turns) m.agent) r action (λ a turns turn m other says. says-weaker (WasHere configs a turns) (WasHere configs a (turns ++ turn ∷ [])) m.agent (here-more configs a turns turn) says) here
    (λ b act m is at says. here-acts lower configs r.cluster r.turns b act m h (subst (CanTellIt configs) is tells) at says)

pub here-start : Below → (configs : List Config) → IsHere configs (start configs).cluster []
here-start lower configs = each-start (λ a turns m. Says (WasHere configs a turns) m.agent) configs (λ a config is. says-first lower (WasHere configs a []) config)

-- ---- a step

abbrev SeenAt : List Config → List Turn → Turn → Type 0
SeenAt configs before turn =
    (a : ℕ) (packet : List ℕ) (e : UserEvent) → actor_of turn.action ≡ Some a → turn.line.answer ≡ lines.Ignored Seen → turn.given ≡ Some packet → decoded packet ≡ Ok (user_event e)
    → WasHere configs a before (record { time = e.time; key = event_of e.name e.payload })

seen-acts : Below → (configs : List Config) (c : Cluster) (turns : List Turn) (b : ℕ) (act : Act) (m : IdealNode) (packet : List ℕ) (e : UserEvent) → IsHere configs c turns → slice_get c.nodes b ≡ Some m → (apply m c.sent act).done.answer ≡ lines.Ignored Seen
    → given_by c.sent act ≡ Some packet → decoded packet ≡ Ok (user_event e) → WasHere configs b turns (record { time = e.time; key = event_of e.name e.payload })
seen-acts lower configs c turns b act m packet e here at says given reads =
    let seen : TimedEntry EventBody = record { time = e.time; key = event_of e.name e.payload } in
    let history : All (WasHere configs b turns) (entries m.agent.events.history) = All-map (WasHere configs b turns) (λ (p : Past EventBody). p.entry) m.agent.events.history (here b m at).entered in
    All-contains (WasHere configs b turns) (entries m.agent.events.history) seen history
    (entered-contains m.agent.events.history e.time (event_of e.name e.payload)
    (seen-entered m.agent e.time (event_of e.name e.payload) (seen-effect m (Of b act) (given_by c.sent act) (apply m c.sent act) (effect lower m c.sent b act) packet e says given reads)))

pub seen-step : Below → (configs : List Config) (r : Run) (action : Action) → IsHere configs r.cluster r.turns → SeenWasHandedOrTailed configs r.turns → SeenWasHandedOrTailed configs (after r action).turns
seen-step lower configs r action here all =
    at_each_push (SeenAt configs) r.turns (step r.cluster action).turn all (step-cases (λ s. SeenAt configs r.turns s.turn) r.cluster action (λ bytes a packet e is says given reads. absurd (cc says)) (λ b act at a packet e is says given reads. absurd (cc says))
    (λ b act m of at a packet e is says given reads.
    subst (λ (n : ℕ). WasHere configs n r.turns (record { time = e.time; key = event_of e.name e.payload })) (let same : b ≡ a = cc is in same) (seen-acts lower configs r.cluster r.turns b act m packet e here at says given reads)))

pub seen-start : (configs : List Config) → SeenWasHandedOrTailed configs []
seen-start configs = at_each_nil (SeenAt configs)

-- if no agent keeps its events, none restores any from a tail
pub seen-alone : (configs : List Config) (turns : List Turn) → NoneKeeps configs → SeenWasHandedOrTailed configs turns → SeenWasHanded turns
seen-alone configs turns none h before turn rest is a packet e actor says given reads = by (h before turn rest is a packet e actor says given reads)
  where
    seen : TimedEntry EventBody
    seen = record { time = e.time; key = event_of e.name e.payload }

    by : WasHere configs a before (record { time = e.time; key = event_of e.name e.payload }) → Contains (events_to a before) (record { time = e.time; key = event_of e.name e.payload })
    by (inl found) = found
    by (inr tailed) = absurd (in-none seen (subst (λ (l : List (TimedEntry EventBody)). Contains l seen) (no-tails configs (turns_by a before) none) tailed))

-- An agent is handed each event once, and fires later than everything that it was handed. The same holds of queries.
use Rattle.serf_model.proofs.Names.{List, Some, [], subst, sym, ℕ, ◌<◌, ◌≡◌, All-contains, All-map, All-weaker, All, Contains, slice_get, TimedEntry, Past, Config, Below, Cluster, IdealNode, Run, after, apply, step, Later, Once, QueryLater, QueryOnce, IsRepresentable, Turn, actor_of, events_to, queries_at, Act, Action}
use Rattle.serf_model.specs.declared.line.Answer.TheVariants as answers
use Rattle.serf_model.proofs.StepCases.{step-cases}
use Rattle.serf_model.proofs.TurnLaws.{at_each_nil, at_each_push}
use Rattle.serf_model.proofs.HistoryGrowth.{keeps-apply}
use Rattle.serf_model.proofs.PerTimeBound.{entries}
use Rattle.serf_model.proofs.RunLaws.{IsAfter, events_at, queries_of, all-at}
use Rattle.serf_model.proofs.Within.{IsWithin}

-- ---- what holds of the entries of a sound track

below-entries : {K : Type 0} (h : List (Past K)) (t : ℕ) → All (λ p. p.entry.time < t) h → All (λ e. e.time < t) (entries h)
below-entries {K} h t below = All-map (λ (e : TimedEntry K). e.time < t) (λ (p : Past K). p.entry) h below

-- what is later than a whole history is later than a part of it
below-within : {K : Type 0} (h : List (Past K)) (some : List (TimedEntry K)) (t : ℕ) → All (λ p. p.entry.time < t) h → IsWithin (entries h) some → All (λ e. e.time < t) some
below-within {K} h some t below inside =
    All-weaker (Contains (entries h)) (λ e. e.time < t) (λ e c. All-contains (λ (e : TimedEntry K). e.time < t) (entries h) e (below-entries h t below) c) some inside.within

-- ---- once

pub once : (configs : List Config) (c : Cluster) (turns : List Turn) → IsAfter configs c turns → Once turns
once configs c turns h a = (h.events a).once

pub query-once : (configs : List Config) (c : Cluster) (turns : List Turn) → IsAfter configs c turns → QueryOnce turns
query-once configs c turns h a = (h.queries a).once

-- ---- later

abbrev LaterAt : List Turn → Turn → Type 0
LaterAt before turn = (a t : ℕ) → actor_of turn.action ≡ Some a → turn.line.answer ≡ answers.Fired t → All (λ e. e.time < t) (events_to a before)

abbrev QueryLaterAt : List Turn → Turn → Type 0
QueryLaterAt before turn = (a t : ℕ) → actor_of turn.action ≡ Some a → turn.line.answer ≡ answers.Queried t → All (λ q. q.time < t) (queries_at a before)

later-acts : Below → (configs : List Config) (c : Cluster) (turns : List Turn) (b : ℕ) (act : Act) (m : IdealNode) (t : ℕ) → IsAfter configs c turns → slice_get c.nodes b ≡ Some m → (apply m c.sent act).done.answer ≡ answers.Fired t → All (λ e. e.time < t) (events_to b turns)
later-acts lower configs c turns b act m t h at fired =
    let representable = all-at (λ m. IsRepresentable m.agent) c.nodes b m h.representable at in
    let clock : t ≡ m.agent.events.clock = (keeps-apply lower m c.sent b act representable).fired t fired in
    below-within m.agent.events.history (events_to b turns) t (subst (λ (n : ℕ). All (λ p. p.entry.time < n) m.agent.events.history) (sym clock) representable.consistent.sound.events.below_clock)
    (subst (λ r. IsWithin (events_at r) (events_to b turns)) at (h.events b))

pub later-step : Below → (configs : List Config) (r : Run) (action : Action) → IsAfter configs r.cluster r.turns → Later r.turns → Later (after r action).turns
later-step lower configs r action h all =
    at_each_push LaterAt r.turns (step r.cluster action).turn all (step-cases (λ s. LaterAt r.turns s.turn) r.cluster action (λ bytes a t is fired. absurd (cc fired)) (λ b act at a t is fired. absurd (cc fired))
    (λ b act m of at a t is fired. subst (λ (n : ℕ). All (λ e. e.time < t) (events_to n r.turns)) (let same : b ≡ a = cc is in same) (later-acts lower configs r.cluster r.turns b act m t h at fired)))

query-later-acts : Below → (configs : List Config) (c : Cluster) (turns : List Turn) (b : ℕ) (act : Act) (m : IdealNode) (t : ℕ) → IsAfter configs c turns → slice_get c.nodes b ≡ Some m → (apply m c.sent act).done.answer ≡ answers.Queried t → All (λ q. q.time < t) (queries_at b turns)
query-later-acts lower configs c turns b act m t h at fired =
    let representable = all-at (λ m. IsRepresentable m.agent) c.nodes b m h.representable at in
    let clock : t ≡ m.agent.queries.clock = (keeps-apply lower m c.sent b act representable).fired_queries t fired in
    below-within m.agent.queries.history (queries_at b turns) t (subst (λ (n : ℕ). All (λ p. p.entry.time < n) m.agent.queries.history) (sym clock) representable.consistent.sound.queries.below_clock)
    (subst (λ r. IsWithin (queries_of r) (queries_at b turns)) at (h.queries b))

pub query-later-step : Below → (configs : List Config) (r : Run) (action : Action) → IsAfter configs r.cluster r.turns → QueryLater r.turns → QueryLater (after r action).turns
query-later-step lower configs r action h all =
    at_each_push QueryLaterAt r.turns (step r.cluster action).turn all (step-cases (λ s. QueryLaterAt r.turns s.turn) r.cluster action (λ bytes a t is fired. absurd (cc fired)) (λ b act at a t is fired. absurd (cc fired))
    (λ b act m of at a t is fired. subst (λ (n : ℕ). All (λ q. q.time < t) (queries_at n r.turns)) (let same : b ≡ a = cc is in same) (query-later-acts lower configs r.cluster r.turns b act m t h at fired)))

-- ---- the start

pub later-start : Later []
later-start = at_each_nil LaterAt

pub query-later-start : QueryLater []
query-later-start = at_each_nil QueryLaterAt

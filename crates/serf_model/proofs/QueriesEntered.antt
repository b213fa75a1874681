-- Each query that enters was fired, or an injected packet carries it.
use Rattle.serf_model.proofs.Names.{Bool, List, None, Ok, Option, Some, [], ap, arith, false, inl, inr, length, refl, subst, sym, true, ℕ, ◌++◌, ◌<◌, ◌^◌, ◌∷◌, ◌≡◌, ◌≤◌, ltb-false, All-append, All-cons, All-contains, All-contains_itself, All-head, All-nil, All-tail, All-weaker, fold, All, Contains, canonical, decoded, Query, query, IsRangedQuery, TimedEntry, drawn, IdealAgent, flags_of, is_too_large_query, query_at, query_error, Config, QueryParams, Below, Applied, Cluster, Done, IdealNode, Run, after, apply, run_of, start, step, QueryOnlyFired, WasQueried, queried_by, queries_fired, queries_injected, HasShortQueries, HasSizes, IsSized, Turn, entered_by, given_by, injected_in, injects_of, queried_in, query_brought, query_packets, Act, Action, Of, Answer}
use Rattle.serf_agent.specs.declared.outcome.QueryError.TheVariants as asks
use Rattle.serf_model.specs.declared.line.Answer.TheVariants as answers
use Rattle.serf_model.proofs.QueryOrigins.{IsAsked, WasAsked, fired_queries-start, fired_queries-step}
use Rattle.serf_model.proofs.FiredLaws.{all-parts}
use Rattle.serf_model.proofs.CallsKept.{may-ask}
use Rattle.serf_model.proofs.PerTimeBound.{none-if}
use Rattle.serf_model.proofs.Effects.{Effect, asks, counts, effect, hears, as_message}
use Rattle.serf_model.proofs.PerAgent.{Each}
use Rattle.serf_model.proofs.SettingsKept.{HasSettings, settings-start, settings-step, short-at}
use Rattle.serf_model.proofs.StepCases.{step-cases}
use Rattle.serf_model.proofs.TurnLaws.{all-in, at_each_nil, at_each_push, flat_map-push, in-before, in-now, in-parts_before}

-- ---- the query in a packet

-- P holds of all queries that a packet contains
abbrev Brings : (TimedEntry ℕ → Type 0) → List ℕ → Type 0
Brings P packet = All P (query_brought (decoded packet))

abbrev only_query : ℕ → ℕ → List (TimedEntry ℕ)
only_query t id = record { time = t; key = id } ∷ []

flags-fit : (ack quiet : Bool) → flags_of ack quiet < 2 ^ 32
flags-fit true true = omega arith
flags-fit true false = omega arith
flags-fit false true = omega arith
flags-fit false false = omega arith

-- a query that isn't refused is short
fired_queries-short : (i : IdealAgent) (id : ℕ) (name payload : List ℕ) (params : QueryParams) → HasShortQueries i.config → query_error i id name payload params ≡ None → length (canonical (query (query_at i.queries.clock i.config.name id name payload params))) ≤ 9216
fired_queries-short i id name payload params limit is =
    let may = may-ask i id name payload params is in
    let runs = none-if i.snapshot.stopped asks.Stopped _ is in
    let large = none-if (is_too_large_query i.config i.queries.clock id name payload params) asks.TooLarge _ runs.1 in
    let same : drawn i.queries.clock ≡ i.queries.clock = omega (arith, may.clock) in
    let short : length (canonical (query (query_at (drawn i.queries.clock) i.config.name id name payload params))) ≤ i.config.query_limit = ltb-false _ _ large.0 in
    subst (λ (t : ℕ). length (canonical (query (query_at t i.config.name id name payload params))) ≤ 9216) same (omega arith)

-- the packet of a fired query spells this query
pub own-decoded : Below → (i : IdealAgent) (id : ℕ) (name payload : List ℕ) (params : QueryParams) → HasShortQueries i.config → IsSized id params.port params.relay_factor params.timeout → query_error i id name payload params ≡ None
    → (let q = query_at i.queries.clock i.config.name id name payload params in decoded (canonical (query q)) ≡ Ok (query q))
own-decoded lower i id name payload params short sized is =
    let may = may-ask i id name payload params is in
    let q : Query = query_at i.queries.clock i.config.name id name payload params in
    let ranged : IsRangedQuery q = record { time = omega (arith, may.clock); id = sized.id_fits; port = sized.port_fits; flags = flags-fit params.want_ack params.no_broadcast; relay_factor = sized.relay_factor_fits; timeout = sized.timeout_fits } in
    lower.spelled (canonical (query q)) (query q) (lower.canonical (query q) ranged (lower.short.query_fits q (fired_queries-short i id name payload params short is)))

brings-own : Below → (i : IdealAgent) (id : ℕ) (name payload : List ℕ) (params : QueryParams) → HasShortQueries i.config → IsSized id params.port params.relay_factor params.timeout → query_error i id name payload params ≡ None
    → query_brought (decoded (canonical (query (query_at i.queries.clock i.config.name id name payload params)))) ≡ only_query i.queries.clock id
brings-own lower i id name payload params short sized is = ap query_brought (own-decoded lower i id name payload params short sized is)

-- ---- the packet that an action sends for a fired query

-- the packet contains only the query that was fired
abbrev BringsOwn : Action → Done → Type 0
BringsOwn action done = All (Brings (Contains (queried_by action done.answer))) (query_packets done.answer done.packets)

own-nothing : (P : List ℕ → Type 0) (answer : Answer) → All P (query_packets answer [])
own-nothing P (answers.Queried t) = All-nil P
own-nothing P _ = All-nil P

own-effect : Below → (m : IdealNode) (action : Action) (given : Option (List ℕ)) (o : Applied) → Effect m action given o → HasShortQueries m.agent.config → HasSizes action → BringsOwn action o.done
own-effect lower m action given o (hears j outs answer heard idle) short sized = own-nothing (Brings (Contains (queried_by action answer))) answer
own-effect lower m action given o (asks agent q may) short sized =
    let own : List (TimedEntry ℕ) = only_query m.agent.queries.clock q.id in
    All-cons (Brings (Contains own)) (canonical (query (as_message m q))) [] (subst (All (Contains own)) (sym (brings-own lower m.agent q.id q.name q.payload q.params short sized may)) (All-contains_itself own)) (All-nil (Brings (Contains own)))
own-effect lower m action given o (counts to number now packet r q true is at none kind) short sized = All-nil (Brings (Contains []))
own-effect lower m action given o _ short sized = All-nil (Brings (Contains []))

own-apply : Below → (m : IdealNode) (sent : List (List ℕ)) (a : ℕ) (act : Act) → HasShortQueries m.agent.config → HasSizes (Of a act) → BringsOwn (Of a act) (apply m sent act).done
own-apply lower m sent a act short sized = own-effect lower m (Of a act) (given_by sent act) (apply m sent act) (effect lower m sent a act) short sized

-- ---- a turn

abbrev OwnTurn : Turn → Type 0
OwnTurn turn = All (Brings (Contains (queried_by turn.action turn.line.answer))) (query_packets turn.line.answer turn.packets)

own-step : Below → (configs : List Config) (c : Cluster) (turns : List Turn) (action : Action) → All HasShortQueries configs → Each (HasSettings configs) c turns → HasSizes action → OwnTurn (step c action).turn
own-step lower configs c turns action short h sized = step-cases (λ s. OwnTurn s.turn) c action (λ bytes. All-nil (Brings (Contains []))) (λ b act at. All-nil (Brings (Contains []))) (λ b act m is at. own-apply lower m c.sent b act (short-at configs b m.agent.config short (h b m at)) (subst HasSizes is sized))

-- what enters was fired, or is in the given packet
entered-from : (P : TimedEntry ℕ → Type 0) (action : Action) (given : Option (List ℕ)) (answer : Answer) → All P (queried_by action answer) → ((packet : List ℕ) → answer ≡ answers.Query → given ≡ Some packet → Brings P packet)
    → All P (entered_by action given answer)
entered-from P action given (answers.Queried t) fired brought = fired
entered-from P action None answers.Query fired brought = All-nil P
entered-from P action (Some packet) answers.Query fired brought = brought packet refl refl
entered-from P action given _ fired brought = All-nil P

-- ---- a run

-- the packets that were sent for fired queries contain only fired queries
abbrev OwnPackets : List Turn → Type 0
OwnPackets turns = All (Brings (Contains (queries_fired turns))) (queried_in turns)

more-brought : (P Q : TimedEntry ℕ → Type 0) → ((q : TimedEntry ℕ) → P q → Q q) → (ps : List (List ℕ)) → All (Brings P) ps → All (Brings Q) ps
more-brought P Q up ps all = All-weaker (Brings P) (Brings Q) (λ p h. All-weaker P Q up (query_brought (decoded p)) h) ps all

own-push : (turns : List Turn) (turn : Turn) → OwnPackets turns → OwnTurn turn → OwnPackets (turns ++ turn ∷ [])
own-push turns turn all own =
    let F : TimedEntry ℕ → Type 0 = Contains (queries_fired (turns ++ turn ∷ [])) in
    let ps = query_packets turn.line.answer turn.packets in
    subst (All (Brings F)) (sym (flat_map-push (λ t. query_packets t.line.answer t.packets) turns turn))
    (All-append (Brings F) (queried_in turns) ps
    (more-brought (Contains (queries_fired turns)) F (in-before (λ t. queried_by t.action t.line.answer) turns turn) (queried_in turns) all)
    (more-brought (Contains (queried_by turn.action turn.line.answer)) F (in-now (λ t. queried_by t.action t.line.answer) turns turn) ps own))

-- a packet that was sent for a fired query, or that was injected, contains only queries that were fired or injected
fired_queries-brings : (turns : List Turn) (packet : List ℕ) → OwnPackets turns → WasAsked turns packet → Brings (WasQueried turns) packet
fired_queries-brings turns packet own (inl h) =
    All-weaker (Contains (queries_fired turns)) (WasQueried turns) (λ q c. inl c) (query_brought (decoded packet)) (All-contains (Brings (Contains (queries_fired turns))) (queried_in turns) packet own h)
fired_queries-brings turns packet own (inr h) =
    let injected : List (TimedEntry ℕ) = queries_injected turns in
    let all = all-parts (Contains injected) (λ p. query_brought (decoded p)) (injected_in turns) (All-contains_itself injected) in
    All-weaker (Contains injected) (WasQueried turns) (λ q c. inr c) (query_brought (decoded packet)) (All-contains (Brings (Contains injected)) (injected_in turns) packet all h)

was-queried-more : (turns : List Turn) (turn : Turn) (q : TimedEntry ℕ) → WasQueried turns q → WasQueried (turns ++ turn ∷ []) q
was-queried-more turns turn q (inl h) = inl (in-before (λ t. queried_by t.action t.line.answer) turns turn q h)
was-queried-more turns turn q (inr h) = inr (in-parts_before (λ p. query_brought (decoded p)) (λ t. injects_of t.action) turns turn q h)

abbrev OnlyAt : List Turn → Turn → Type 0
OnlyAt before turn = All (WasQueried (before ++ turn ∷ [])) (entered_by turn.action turn.given turn.line.answer)

record IsQueried (configs : List Config) (r : Run) : Type 0 where
  settings : Each (HasSettings configs) r.cluster r.turns
  fired_queries : IsAsked r.cluster r.turns
  own : OwnPackets r.turns
  only : QueryOnlyFired r.turns

only-now : (turns : List Turn) (turn : Turn) → OwnPackets turns → ((packet : List ℕ) → turn.line.answer ≡ answers.Query → turn.given ≡ Some packet → WasAsked turns packet) → OnlyAt turns turn
only-now turns turn own fired_queries =
    let W : TimedEntry ℕ → Type 0 = WasQueried (turns ++ turn ∷ []) in
    let fired = queried_by turn.action turn.line.answer in
    entered-from W turn.action turn.given turn.line.answer
    (all-in W fired (λ q h. inl (in-now (λ t. queried_by t.action t.line.answer) turns turn q h)))
    (λ packet says given. All-weaker (WasQueried turns) W (was-queried-more turns turn) (query_brought (decoded packet)) (fired_queries-brings turns packet own (fired_queries packet says given)))

queried-step : Below → (configs : List Config) (r : Run) (action : Action) → All HasShortQueries configs → HasSizes action → IsQueried configs r → IsQueried configs (after r action)
queried-step lower configs r action short sized h =
    let turn : Turn = (step r.cluster action).turn in
    let fired_queries = fired_queries-step lower r action h.fired_queries in
    record {
      settings = settings-step lower configs r action h.settings;
      fired_queries = fired_queries;
      own = own-push r.turns turn h.own (own-step lower configs r.cluster r.turns action short h.settings sized);
      only = at_each_push OnlyAt r.turns turn h.only (only-now r.turns turn h.own (fired_queries.fired r.turns turn [] refl));
    }

queried-fold : Below → (configs : List Config) (r : Run) (actions : List Action) → All HasShortQueries configs → All HasSizes actions → IsQueried configs r → IsQueried configs (fold after r actions)
queried-fold lower configs r [] short sized h = h
queried-fold lower configs r (action ∷ actions) short sized h = queried-fold lower configs (after r action) actions short (All-tail HasSizes action actions sized) (queried-step lower configs r action short (All-head HasSizes action actions sized) h)

pub query-only-fired : Below → (configs : List Config) (actions : List Action) → All HasShortQueries configs → All HasSizes actions → QueryOnlyFired (run_of configs actions).turns
query-only-fired lower configs actions short sized = (queried-fold lower configs (start configs) actions short sized (record { settings = settings-start configs; fired_queries = fired_queries-start configs; own = All-nil (Brings (Contains [])); only = at_each_nil OnlyAt })).only

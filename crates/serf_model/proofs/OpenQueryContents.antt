-- An agent's open queries hold exactly what its turns counted.
use Rattle.serf_model.proofs.Names.{Bool, List, None, Ok, Option, Result, Some, [], ap, cond, false, map, nat_lt, refl, subst, sym, true, ℕ, ◌++◌, ◌<◌, ◌==◌, ◌∙◌, ◌∷◌, ◌≡◌, ◌≢◌, ◌≤◌, eq-eqb, eqb-true, ltb-false, not-false, append-nil, map-append, All-contains, All-filter, All-map, All-nil, All-push, All-weaker, Contains-append_left, Contains-push, all_pairs_push, fold_push, flat_map, option_to_list, All, AllPairs, Contains, decoded, Message, QueryResponse, query_response, WireError, TimedEntry, IdealAgent, Past, ack_flag, ack_ignore_reason, answer_ignore_reason, fired_query_at, counted, deadline_of, flags_of, has_acked, has_flag, has_responded, is_ack, is_due, opened_query, query_at, response_ignore_reason, with_fired_query_at, Response, OpenQuery, AckNotRequested, AckTwice, Closed, OtherId, ResponseTwice, IsAwaited, OwnQuery, answer_brought, answers_in, as_fired, counted_at, is_counted, own_queries, own_query, query_answered, response_held, to_time, is_restarted, Applied, IdealNode, IsRepresentable, Turn, entered_by, Action, Of, Answer, Line, NewQuery}
use Rattle.std.proofs.Common.{not}
use Rattle.serf_model.specs.declared.action.Act.TheVariants as acts
use Rattle.serf_model.specs.declared.line.Answer.TheVariants as lines
use Rattle.serf_model.proofs.PerTimeBound.{entries, none-if}
use Rattle.serf_model.proofs.PresentLife.{last_life, lives_on}
use Rattle.serf_model.proofs.Effects.{Effect, IsIdle, asks, closes_due, counts, hears, idle-enters, reopens}
use Rattle.serf_model.proofs.OpenQueriesKept.{fresh-name}
use Rattle.serf_model.proofs.TurnLaws.{flat_map-push, in-before}
use Rattle.serf_model.proofs.AnswersByTime.{fired_queries-found, fired_queries-replaced, none-to_time, passing, to_time-other, to_time-same}

-- ---- one more turn of an agent

abbrev entered : Turn → List (TimedEntry ℕ)
entered t = entered_by t.action t.given t.line.answer

-- the queries that entered, and what was counted
abbrev pub queries_in : List Turn → List (TimedEntry ℕ)
queries_in ts = flat_map (λ t. entered_by t.action t.given t.line.answer) ts

abbrev pub counted_in : Bool → List Turn → List QueryResponse
counted_in ack ts = flat_map (counted_at ack) ts

queries-push : (ts : List Turn) (t : Turn) → queries_in (ts ++ t ∷ []) ≡ queries_in ts ++ entered t
queries-push ts t = flat_map-push (λ t. entered_by t.action t.given t.line.answer) ts t

queries-more : (ts : List Turn) (t : Turn) (x : TimedEntry ℕ) → Contains (queries_in ts) x → Contains (queries_in (ts ++ t ∷ [])) x
queries-more ts t x h = in-before entered ts t x h

own-push : (ts : List Turn) (t : Turn) → is_restarted t.line.answer ≡ false → own_queries (last_life (ts ++ t ∷ [])) ≡ own_queries (last_life ts) ++ own_query t.action t.line.answer
own-push ts t on =
    ap own_queries (fold_push lives_on [] ts t ∙ ap (λ b. cond b [] (last_life ts ++ t ∷ [])) on)
    ∙ flat_map-push (λ t. own_query t.action t.line.answer) (last_life ts) t

own-more : (ts : List Turn) (t : Turn) (x : OwnQuery) → is_restarted t.line.answer ≡ false → Contains (own_queries (last_life ts)) x → Contains (own_queries (last_life (ts ++ t ∷ []))) x
own-more ts t x on h = subst (λ l. Contains l x) (sym (own-push ts t on)) (Contains-append_left (own_queries (last_life ts)) (own_query t.action t.line.answer) x h)

counted-push : (ack : Bool) (ts : List Turn) (t : Turn) → counted_in ack (ts ++ t ∷ []) ≡ counted_in ack ts ++ counted_at ack t
counted-push ack ts t = flat_map-push (counted_at ack) ts t

counted-still : (ack : Bool) (ts : List Turn) (t : Turn) → is_counted ack t.line.answer ≡ false → counted_in ack (ts ++ t ∷ []) ≡ counted_in ack ts
counted-still ack ts t never = counted-push ack ts t ∙ ap (λ b. counted_in ack ts ++ cond b (answers_in (option_to_list t.given)) []) never ∙ append-nil (counted_in ack ts)

-- ---- the invariant

-- no two answers to the same time have the same name
abbrev pub AreNamedOnce : List QueryResponse → Type 0
AreNamedOnce rs = AllPairs (λ x y. x.time ≡ y.time → x.from ≢ y.from) rs

abbrev pub as_entered : ℕ × OpenQuery → TimedEntry ℕ
as_entered q = record { time = q.0; key = q.1.id }

-- what is true of an open query, if these are its agent's turns
pub record IsOpen (ts : List Turn) (q : ℕ × OpenQuery) : Type 0 where
  pub fired : Contains (own_queries (last_life ts)) (as_fired q)
  pub entered : Contains (queries_in ts) (as_entered q)
  pub acks : q.1.acks ≡ map (λ r. r.from) (to_time q.0 (counted_in true ts))
  pub responses : q.1.responses ≡ map response_held (to_time q.0 (counted_in false ts))
  pub ids : (ack : Bool) → All (λ r. r.id ≡ q.1.id) (to_time q.0 (counted_in ack ts))

-- what is true of an agent, if these are its turns
pub record HasCounted (ts : List Turn) (i : IdealAgent) : Type 0 where
  pub fired_queries : All (IsOpen ts) i.fired_queries
  pub past : (ack : Bool) → All (λ r. Contains (queries_in ts) (query_answered r)) (counted_in ack ts)
  pub once : (ack : Bool) → AreNamedOnce (counted_in ack ts)

-- an open query after a turn that counts nothing for it
open-more : (ts : List Turn) (t : Turn) (q : ℕ × OpenQuery) → is_restarted t.line.answer ≡ false → ((ack : Bool) → to_time q.0 (counted_in ack (ts ++ t ∷ [])) ≡ to_time q.0 (counted_in ack ts)) → IsOpen ts q → IsOpen (ts ++ t ∷ []) q
open-more ts t q on same h = record {
  fired = own-more ts t (as_fired q) on h.fired;
  entered = queries-more ts t (as_entered q) h.entered;
  acks = h.acks ∙ ap (map (λ (r : QueryResponse). r.from)) (sym (same true));
  responses = h.responses ∙ ap (map response_held) (sym (same false));
  ids = λ ack. subst (All (λ r. r.id ≡ q.1.id)) (sym (same ack)) (h.ids ack);
}

-- a turn that counts nothing
has-counted-still : (ts : List Turn) (t : Turn) (i j : IdealAgent) → HasCounted ts i → ((ack : Bool) → is_counted ack t.line.answer ≡ false) → All (IsOpen (ts ++ t ∷ [])) j.fired_queries → HasCounted (ts ++ t ∷ []) j
has-counted-still ts t i j h never all = record {
  fired_queries = all;
  past = λ ack. subst (All (λ r. Contains (queries_in (ts ++ t ∷ [])) (query_answered r))) (sym (counted-still ack ts t (never ack)))
      (All-weaker (λ r. Contains (queries_in ts) (query_answered r)) (λ r. Contains (queries_in (ts ++ t ∷ [])) (query_answered r)) (λ r. queries-more ts t (query_answered r)) (counted_in ack ts) (h.past ack));
  once = λ ack. subst AreNamedOnce (sym (counted-still ack ts t (never ack))) (h.once ack);
}

-- a turn of the same life that counts nothing for any query
has-counted-on : (ts : List Turn) (t : Turn) (i j : IdealAgent) → HasCounted ts i → is_restarted t.line.answer ≡ false → ((ack : Bool) → is_counted ack t.line.answer ≡ false) → All (IsOpen ts) j.fired_queries → HasCounted (ts ++ t ∷ []) j
has-counted-on ts t i j h on never all = has-counted-still ts t i j h never (All-weaker (IsOpen ts) (IsOpen (ts ++ t ∷ [])) (λ q. open-more ts t q on (λ ack. ap (to_time q.0) (counted-still ack ts t (never ack)))) j.fired_queries all)

-- ---- a query that is fired

flags-ask : (want_ack no_broadcast : Bool) → has_flag ack_flag (flags_of want_ack no_broadcast) ≡ want_ack
flags-ask true true = refl
flags-ask true false = refl
flags-ask false true = refl
flags-ask false false = refl

-- everything that was counted belongs to times below the clock
past-below : (ts : List Turn) (i : IdealAgent) (ack : Bool) → IsRepresentable i → All (Contains (entries i.queries.history)) (queries_in ts) → HasCounted ts i → All (λ r. r.time < i.queries.clock) (counted_in ack ts)
past-below ts i ack representable same h =
    let history : All (λ e. e.time < i.queries.clock) (entries i.queries.history) =
    All-map (λ (e : TimedEntry ℕ). e.time < i.queries.clock) (λ (p : Past ℕ). p.entry) i.queries.history representable.consistent.sound.queries.below_clock in
    let below : All (λ e. e.time < i.queries.clock) (queries_in ts) =
    All-weaker (Contains (entries i.queries.history)) (λ e. e.time < i.queries.clock) (λ e c. All-contains (λ (e : TimedEntry ℕ). e.time < i.queries.clock) (entries i.queries.history) e history c) (queries_in ts) same in
    All-weaker (λ r. Contains (queries_in ts) (query_answered r)) (λ r. r.time < i.queries.clock) (λ r c. All-contains (λ (e : TimedEntry ℕ). e.time < i.queries.clock) (queries_in ts) (query_answered r) below c)
    (counted_in ack ts) (h.past ack)

has-counted-asks : (ts : List Turn) (t : Turn) (i j : IdealAgent) (agent : ℕ) (q : NewQuery) → IsRepresentable i → All (Contains (entries i.queries.history)) (queries_in ts) → HasCounted ts i
    → t.action ≡ Of agent (acts.Query q) → t.line.answer ≡ lines.Queried i.queries.clock
    → j.fired_queries ≡ i.fired_queries ++ (i.queries.clock, opened_query q.moment (query_at i.queries.clock i.config.name q.id q.name q.payload q.params)) ∷ [] → HasCounted (ts ++ t ∷ []) j
has-counted-asks ts t i j agent q representable same h action answer is =
    let on : is_restarted t.line.answer ≡ false = ap is_restarted answer in
    let never : (ack : Bool) → is_counted ack t.line.answer ≡ false = λ ack. ap (is_counted ack) answer in
    let still : (ack : Bool) → counted_in ack (ts ++ t ∷ []) ≡ counted_in ack ts = λ ack. counted-still ack ts t (never ack) in
    let new : OpenQuery = opened_query q.moment (query_at i.queries.clock i.config.name q.id q.name q.payload q.params) in
    let none : (ack : Bool) → to_time i.queries.clock (counted_in ack (ts ++ t ∷ [])) ≡ [] = λ ack. ap (to_time i.queries.clock) (still ack) ∙ none-to_time i.queries.clock (counted_in ack ts) (past-below ts i ack representable same h) in
    let fired_queries : own_query t.action t.line.answer ≡ as_fired (i.queries.clock, new) ∷ [] =
    ap (λ a. own_query a t.line.answer) action ∙ ap (own_query (Of agent (acts.Query q))) answer
    ∙ ap (λ b. record { time = i.queries.clock; id = q.id; deadline = deadline_of q.moment q.params.timeout; wants_ack = b } ∷ []) (sym (flags-ask q.params.want_ack q.params.no_broadcast)) in
    let enters : entered t ≡ as_entered (i.queries.clock, new) ∷ [] = ap (λ a. entered_by a t.given t.line.answer) action ∙ ap (entered_by (Of agent (acts.Query q)) t.given) answer in
    let first : IsOpen (ts ++ t ∷ []) (i.queries.clock, new) = record {
      fired = subst (λ l. Contains l (as_fired (i.queries.clock, new))) (sym (own-push ts t on ∙ ap (λ l. own_queries (last_life ts) ++ l) fired_queries)) (Contains-push (own_queries (last_life ts)) (as_fired (i.queries.clock, new)));
      entered = subst (λ l. Contains l (as_entered (i.queries.clock, new))) (sym (queries-push ts t ∙ ap (λ l. queries_in ts ++ l) enters)) (Contains-push (queries_in ts) (as_entered (i.queries.clock, new)));
      acks = ap (map (λ (r : QueryResponse). r.from)) (sym (none true));
      responses = ap (map response_held) (sym (none false));
      ids = λ ack. subst (All (λ r. r.id ≡ new.id)) (sym (none ack)) (All-nil (λ (r : QueryResponse). r.id ≡ new.id));
    } in
    has-counted-still ts t i j h never (subst (All (IsOpen (ts ++ t ∷ []))) (sym is)
    (All-push (IsOpen (ts ++ t ∷ [])) i.fired_queries (i.queries.clock, new) (All-weaker (IsOpen ts) (IsOpen (ts ++ t ∷ [])) (λ q. open-more ts t q on (λ ack. ap (to_time q.0) (still ack))) i.fired_queries h.fired_queries) first))

-- ---- an answer that is counted

-- the kind that is counted is the kind of the answer
kind-counted : (ack b : Bool) → is_counted ack (cond b lines.Ack lines.Response) ≡ true → b ≡ ack
kind-counted true true e = refl
kind-counted true false e = absurd (cc e)
kind-counted false true e = absurd (cc e)
kind-counted false false e = refl

-- an answer that isn't refused
record IsTaken (now : ℕ) (r : QueryResponse) (q : OpenQuery) : Type 0 where
  id : q.id ≡ r.id
  in_time : now ≤ q.deadline
  asks : is_ack r ≡ true → q.wants_ack ≡ true
  acks : is_ack r ≡ true → All (λ a. a ≢ r.from) q.acks
  responses : is_ack r ≡ false → All (λ a. a.from ≢ r.from) q.responses

taken : (now : ℕ) (r : QueryResponse) (q : OpenQuery) → answer_ignore_reason now r q ≡ None → IsTaken now r q
taken now r q is =
    let id = none-if (not (q.id == r.id)) OtherId _ is in
    let deadline = none-if (nat_lt q.deadline now) Closed _ id.1 in
    by (is_ack r) refl deadline.1 (eqb-true q.id r.id (not-false (q.id == r.id) id.0)) (ltb-false q.deadline now deadline.0)
  where
    by : (b : Bool) → is_ack r ≡ b → cond b (ack_ignore_reason r.from q) (response_ignore_reason r.from q) ≡ None → q.id ≡ r.id → now ≤ q.deadline → IsTaken now r q
    by true kind e id in_time =
        let fired_queries = none-if (not q.wants_ack) AckNotRequested _ e in
        let fresh = none-if (has_acked q r.from) AckTwice None fired_queries.1 in
        record { id = id; in_time = in_time; asks = λ k. not-false q.wants_ack fired_queries.0; acks = λ k. fresh-name (λ a. a) q.acks r.from fresh.0; responses = λ k. absurd (let no : true ≡ false = sym kind ∙ k in cc) }
    by false kind e id in_time =
        let fresh = none-if (has_responded q r.from) ResponseTwice None e in
        let not_ack : is_ack r ≡ true → ⊥ = λ k. let no : false ≡ true = sym kind ∙ k in cc in
        record { id = id; in_time = in_time; asks = λ k. absurd (not_ack k); acks = λ k. absurd (not_ack k); responses = λ k. fresh-name (λ (a : Response). a.from) q.responses r.from fresh.0 }

-- the name is new among the answers of its kind and time
fresh-counted : (ts : List Turn) (now : ℕ) (r : QueryResponse) (q : OpenQuery) (ack : Bool) → IsOpen ts (r.time, q) → IsTaken now r q → is_ack r ≡ ack → All (λ x. x.time ≡ r.time → x.from ≢ r.from) (counted_in ack ts)
fresh-counted ts now r q ack here takes kind = by ack kind
  where
    timed : (k : Bool) → All (λ x. (x.time == r.time) ≡ true → x.from ≢ r.from) (counted_in k ts) → All (λ x. x.time ≡ r.time → x.from ≢ r.from) (counted_in k ts)
    timed k all = All-weaker (λ x. (x.time == r.time) ≡ true → x.from ≢ r.from) (λ x. x.time ≡ r.time → x.from ≢ r.from) (λ x h e. h (eq-eqb x.time r.time e)) (counted_in k ts) all

    by : (k : Bool) → is_ack r ≡ k → All (λ x. x.time ≡ r.time → x.from ≢ r.from) (counted_in k ts)
    by true is = timed true (passing (λ (a : List ℕ). a ≢ r.from) (λ (x : QueryResponse). x.from) (λ x. x.time == r.time) (counted_in true ts) (subst (All (λ a. a ≢ r.from)) here.acks (takes.acks is)))
    by false is =
        timed false (passing (λ (a : Response). a.from ≢ r.from) response_held (λ x. x.time == r.time) (counted_in false ts) (subst (All (λ (a : Response). a.from ≢ r.from)) here.responses (takes.responses is)))

-- all answers to its time still have its ID
ids-counted : (rs more : List QueryResponse) (r : QueryResponse) (id : ℕ) (b : Bool) → more ≡ rs ++ cond b (r ∷ []) [] → r.id ≡ id → All (λ x. x.id ≡ id) (to_time r.time rs) → All (λ x. x.id ≡ id) (to_time r.time more)
ids-counted rs more r id true e same all = subst (All (λ x. x.id ≡ id)) (sym (ap (to_time r.time) e ∙ to_time-same rs r)) (All-push (λ (x : QueryResponse). x.id ≡ id) (to_time r.time rs) r all same)
ids-counted rs more r id false e same all = subst (All (λ x. x.id ≡ id)) (sym (ap (to_time r.time) (e ∙ append-nil rs))) all

-- the open query after the answer was counted
open-counted : (ts : List Turn) (t : Turn) (r : QueryResponse) (q : OpenQuery) (b : Bool) → is_restarted t.line.answer ≡ false → ((ack : Bool) → counted_in ack (ts ++ t ∷ []) ≡ counted_in ack ts ++ cond (is_counted ack (cond b lines.Ack lines.Response)) (r ∷ []) [])
    → IsOpen ts (r.time, q) → q.id ≡ r.id
    → IsOpen (ts ++ t ∷ []) (
      r.time,
      cond b (record { id = q.id; deadline = q.deadline; wants_ack = q.wants_ack; acks = q.acks ++ r.from ∷ []; responses = q.responses })
          (record { id = q.id; deadline = q.deadline; wants_ack = q.wants_ack; acks = q.acks; responses = q.responses ++ record { from = r.from; payload = r.payload } ∷ [] }),
    )
open-counted ts t r q true on more h id = record {
  fired = own-more ts t (as_fired (r.time, q)) on h.fired;
  entered = queries-more ts t (as_entered (r.time, q)) h.entered;
  acks = ap (λ l. l ++ r.from ∷ []) h.acks ∙ sym (ap (λ l. map (λ (x : QueryResponse). x.from) (to_time r.time l)) (more true) ∙ ap (map (λ (x : QueryResponse). x.from)) (to_time-same (counted_in true ts) r)
      ∙ map-append (λ (x : QueryResponse). x.from) (to_time r.time (counted_in true ts)) (r ∷ []));
  responses = h.responses ∙ sym (ap (λ l. map response_held (to_time r.time l)) (more false ∙ append-nil (counted_in false ts)));
  ids = λ ack. ids-counted (counted_in ack ts) (counted_in ack (ts ++ t ∷ [])) r q.id (is_counted ack lines.Ack) (more ack) (sym id) (h.ids ack);
}
open-counted ts t r q false on more h id = record {
  fired = own-more ts t (as_fired (r.time, q)) on h.fired;
  entered = queries-more ts t (as_entered (r.time, q)) h.entered;
  acks = h.acks ∙ sym (ap (λ l. map (λ (x : QueryResponse). x.from) (to_time r.time l)) (more true ∙ append-nil (counted_in true ts)));
  responses = ap (λ l. l ++ record { from = r.from; payload = r.payload } ∷ []) h.responses
      ∙ sym (ap (λ l. map response_held (to_time r.time l)) (more false) ∙ ap (map response_held) (to_time-same (counted_in false ts) r) ∙ map-append response_held (to_time r.time (counted_in false ts)) (r ∷ []));
  ids = λ ack. ids-counted (counted_in ack ts) (counted_in ack (ts ++ t ∷ [])) r q.id (is_counted ack lines.Response) (more ack) (sym id) (h.ids ack);
}

-- the answer in the packet of a turn that counts
brings : (given : Option (List ℕ)) (packet : List ℕ) (r : QueryResponse) → given ≡ Some packet → decoded packet ≡ Ok (query_response r) → answers_in (option_to_list given) ≡ r ∷ []
brings given packet r is says = ap (λ g. answers_in (option_to_list g)) is ∙ ap (λ (d : Result Message WireError). answer_brought d ++ []) says

has-counted-counts : (ts : List Turn) (t : Turn) (i j : IdealAgent) (now : ℕ) (packet : List ℕ) (r : QueryResponse) (q : OpenQuery) → IsRepresentable i → HasCounted ts i → t.given ≡ Some packet → decoded packet ≡ Ok (query_response r)
    → fired_query_at r.time i.fired_queries ≡ Some q → answer_ignore_reason now r q ≡ None → t.line.answer ≡ cond (is_ack r) lines.Ack lines.Response → j.fired_queries ≡ with_fired_query_at r.time (counted r q) i.fired_queries → HasCounted (ts ++ t ∷ []) j
has-counted-counts ts t i j now packet r q representable h given says at none answer is = record {
  fired_queries = subst (All (IsOpen (ts ++ t ∷ []))) (sym is)
      (fired_queries-replaced (IsOpen ts) (IsOpen (ts ++ t ∷ [])) r.time (counted r q) i.fired_queries representable.consistent.sound.fired_queries_distinct h.fired_queries
      (λ p other here. open-more ts t p on (λ ack. ap (to_time p.0) (more ack) ∙ to_time-other p.0 (counted_in ack ts) r _ (λ e. other (sym e))) here)
      (open-counted ts t r q (is_ack r) on more found takes.id));
  past = λ ack. subst (All (λ x. Contains (queries_in (ts ++ t ∷ [])) (query_answered x))) (sym (more ack)) (past ack (is_counted ack (cond (is_ack r) lines.Ack lines.Response)));
  once = λ ack. subst AreNamedOnce (sym (more ack)) (once ack (is_counted ack (cond (is_ack r) lines.Ack lines.Response)) refl);
}
  where
    on : is_restarted t.line.answer ≡ false
    on = ap is_restarted answer ∙ goes (is_ack r)
      where
        goes : (b : Bool) → is_restarted (cond b lines.Ack lines.Response) ≡ false
        goes true = refl
        goes false = refl

    more : (ack : Bool) → counted_in ack (ts ++ t ∷ []) ≡ counted_in ack ts ++ cond (is_counted ack (cond (is_ack r) lines.Ack lines.Response)) (r ∷ []) []
    more ack =
        counted-push ack ts t ∙ ap (λ l. counted_in ack ts ++ cond (is_counted ack t.line.answer) l []) (brings t.given packet r given says) ∙ ap (λ a. counted_in ack ts ++ cond (is_counted ack a) (r ∷ []) []) answer

    found : IsOpen ts (r.time, q)
    found = fired_queries-found (IsOpen ts) r.time i.fired_queries q h.fired_queries at

    takes : IsTaken now r q
    takes = taken now r q none

    Before : QueryResponse → Type 0
    Before x = Contains (queries_in (ts ++ t ∷ [])) (query_answered x)

    past : (ack b : Bool) → All (λ x. Contains (queries_in (ts ++ t ∷ [])) (query_answered x)) (counted_in ack ts ++ cond b (r ∷ []) [])
    past ack b = later b (All-weaker (λ x. Contains (queries_in ts) (query_answered x)) (λ x. Contains (queries_in (ts ++ t ∷ [])) (query_answered x)) (λ x. queries-more ts t (query_answered x)) (counted_in ack ts) (h.past ack))
      where
        here : Contains (queries_in (ts ++ t ∷ [])) (query_answered r)
        here = queries-more ts t (query_answered r) (subst (λ (id : ℕ). Contains (queries_in ts) (record { time = r.time; key = id })) takes.id found.entered)

        later : (b : Bool) → All (λ x. Contains (queries_in (ts ++ t ∷ [])) (query_answered x)) (counted_in ack ts) → All (λ x. Contains (queries_in (ts ++ t ∷ [])) (query_answered x)) (counted_in ack ts ++ cond b (r ∷ []) [])
        later true all = All-push (λ x. Contains (queries_in (ts ++ t ∷ [])) (query_answered x)) (counted_in ack ts) r all here
        later false all = subst (All (λ x. Contains (queries_in (ts ++ t ∷ [])) (query_answered x))) (sym (append-nil (counted_in ack ts))) all

    once : (ack b : Bool) → is_counted ack (cond (is_ack r) lines.Ack lines.Response) ≡ b → AreNamedOnce (counted_in ack ts ++ cond b (r ∷ []) [])
    once ack true kind = all_pairs_push (λ x y. x.time ≡ y.time → x.from ≢ y.from) (counted_in ack ts) r (h.once ack) (fresh-counted ts now r q ack found takes (kind-counted ack (is_ack r) kind))
    once ack false kind = subst AreNamedOnce (sym (append-nil (counted_in ack ts))) (h.once ack)

-- ---- a turn

-- the turn of an action that was given this packet
abbrev turn_of : Action → Option (List ℕ) → Line → List (List ℕ) → Turn
turn_of action given line packets = record { action = action; line = line; given = given; packets = packets }

idle-counts : (i : IdealAgent) (given : Option (List ℕ)) (answer : Answer) (ack : Bool) → IsIdle i given answer → is_counted ack answer ≡ false
idle-counts i given lines.Ack ack idle = absurd idle
idle-counts i given lines.Response ack idle = absurd idle
idle-counts i given _ ack idle = refl

pub has-counted-effect : (ts : List Turn) (m : IdealNode) (action : Action) (given : Option (List ℕ)) (o : Applied) (line : Line) (packets : List (List ℕ)) → Effect m action given o → line.answer ≡ o.done.answer → IsRepresentable m.agent
    → All (Contains (entries m.agent.queries.history)) (queries_in ts) → HasCounted ts m.agent → HasCounted (ts ++ turn_of action given line packets ∷ []) o.node.agent
has-counted-effect ts m action given o line packets (hears j outs answer heard idle) says representable same h =
    has-counted-on ts (turn_of action given line packets) m.agent j h (ap is_restarted says ∙ (idle-enters m.agent action given answer idle).1) (λ ack. ap (is_counted ack) says ∙ idle-counts m.agent given answer ack idle) (subst (All (IsOpen ts)) (sym heard.fired_queries) h.fired_queries)
has-counted-effect ts m action given o line packets (closes_due agent now) says representable same h =
    has-counted-on ts (turn_of _ given line packets) m.agent _ h (ap is_restarted says) (λ ack. ap (is_counted ack) says) (All-filter (λ q. not (is_due now q)) (IsOpen ts) m.agent.fired_queries h.fired_queries)
has-counted-effect ts m action given o line packets (reopens agent tail) says representable same h = has-counted-still ts (turn_of _ given line packets) m.agent _ h (λ ack. ap (is_counted ack) says) (All-nil _)
has-counted-effect ts m action given o line packets (asks agent q may) says representable same h =
    has-counted-asks ts (turn_of _ given line packets) m.agent _ agent q representable same h refl says refl
has-counted-effect ts m action given o line packets (counts to number now packet r q b is at none kind) says representable same h =
    has-counted-counts ts (turn_of _ _ line packets) m.agent _ now packet r q representable h refl is at none (says ∙ ap (λ b. cond b lines.Ack lines.Response) (sym kind)) refl
has-counted-effect ts m action given o line packets _ says representable same h = has-counted-on ts (turn_of _ _ line packets) m.agent _ h (ap is_restarted says) (λ ack. ap (is_counted ack) says) h.fired_queries

-- what holds of a turn that counts
pub record Tells (ts : List Turn) (t : Turn) (ack : Bool) : Type 0 where
  pub to : ℕ
  pub number : ℕ
  pub now : ℕ
  pub packet : List ℕ
  pub answer : QueryResponse
  pub action : t.action ≡ Of to (acts.Deliver number now)
  pub given : t.given ≡ Some packet
  pub says : decoded packet ≡ Ok (query_response answer)
  pub kind : is_ack answer ≡ ack
  pub awaited : IsAwaited (last_life ts) now answer

pub tells-effect : (ts : List Turn) (m : IdealNode) (action : Action) (given : Option (List ℕ)) (o : Applied) (line : Line) (packets : List (List ℕ)) (ack : Bool) → Effect m action given o → line.answer ≡ o.done.answer
    → HasCounted ts m.agent → is_counted ack line.answer ≡ true → Tells ts (turn_of action given line packets) ack
tells-effect ts m action given o line packets ack (hears j outs answer heard idle) says h counted = absurd (let no : false ≡ true = sym (ap (is_counted ack) says ∙ idle-counts m.agent given answer ack idle) ∙ counted in cc)
tells-effect ts m action given o line packets ack (counts to number now packet r q b is at none kind) says h counted =
    let here = fired_queries-found (IsOpen ts) r.time m.agent.fired_queries q h.fired_queries at in
    let takes = taken now r q none in
    record {
      to = to;
      number = number;
      now = now;
      packet = packet;
      answer = r;
      action = refl;
      given = refl;
      says = is;
      kind = kind ∙ kind-counted ack b (sym (ap (is_counted ack) says) ∙ counted);
      awaited = record { query = as_fired (r.time, q); fired = here.fired; time = refl; id = sym takes.id; in_time = takes.in_time; asks = takes.asks };
    }
tells-effect ts m action given o line packets ack _ says h counted = absurd (let no : false ≡ true = sym (ap (is_counted ack) says) ∙ counted in cc)

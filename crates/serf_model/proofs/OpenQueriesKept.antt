-- An answer to an open query, and a deadline that is past, leave the agent sound.
use Rattle.serf_model.proofs.Names.{Bool, List, None, Some, [], ap, arith, cond, false, length, map, nat_lt, refl, subst, suc, sym, true, zero, ℕ, ◌++◌, ◌<◌, ◌==◌, ◌∙◌, ◌∷◌, ◌≡◌, ◌≢◌, or_parts, true≢false, get_or-map, length-map, All-cons, All-filter, All-head, All-map, All-nil, All-tail, all_pairs_push, bytes_eq-Decides, filter, list_any, All, AllPairs, not, bytes_eq, QueryResponse, IdealAgent, with_fired_queries, ack_ignore_reason, answer_ignore_reason, fired_query_at, close_due, counted, has_acked, has_responded, is_ack, is_due, response_ignore_reason, with_fired_query_at, IsOpenQuerySound, Response, OpenQuery, AckNotRequested, AckTwice, Closed, OtherId, ResponseTwice}
use Rattle.serf_model.proofs.ReadyLaws.{IsReady}
use Rattle.serf_model.proofs.AnswersByTime.{fired_queries-found, pairs-rest}
use Rattle.serf_model.proofs.PerTimeBound.{none-if}

-- ---- answers to open queries

abbrev keys : List (ℕ × OpenQuery) → List ℕ
keys l = map (λ p. p.0) l

keys-fired_query_at : (t : ℕ) (x : OpenQuery) (l : List (ℕ × OpenQuery)) → keys (with_fired_query_at t x l) ≡ keys l
keys-fired_query_at t x [] = refl
keys-fired_query_at t x (p ∷ ps) = by (t == p.0) (keys-fired_query_at t x ps)
  where
    by : (b : Bool) → keys (with_fired_query_at t x ps) ≡ keys ps → keys (cond b ((p.0, x) ∷ ps) (p ∷ with_fired_query_at t x ps)) ≡ p.0 ∷ keys ps
    by true rest = refl
    by false rest = ap (λ l. p.0 ∷ l) rest

-- what holds of all keys, and of all pairs of keys, is a fact about the list of keys
keys-all : (P : ℕ → Type 0) (l : List (ℕ × OpenQuery)) → All (λ p. P p.0) l → All P (keys l)
keys-all P l all = All-map P (λ (p : ℕ × OpenQuery). p.0) l all

all-keys : (P : ℕ → Type 0) (l : List (ℕ × OpenQuery)) → All P (keys l) → All (λ p. P p.0) l
all-keys P l all k d h = rw (get_or-map (λ (p : ℕ × OpenQuery). p.0) l k d d.0 h) at (all k d.0 (omega (arith, length-map l (λ (p : ℕ × OpenQuery). p.0))))

keys-pairs : (l : List (ℕ × OpenQuery)) → AllPairs (λ p q. p.0 ≢ q.0) l → AllPairs (λ s t. s ≢ t) (keys l)
keys-pairs l all i j d lt within =
    let long : j < length l = omega (arith, length-map l (λ (p : ℕ × OpenQuery). p.0)) in
    let none : ℕ × OpenQuery = (d, record { id = 0; deadline = 0; wants_ack = false; acks = []; responses = [] }) in
    let far = all i j none lt long in
    λ same. far (sym (get_or-map (λ (p : ℕ × OpenQuery). p.0) l i none d (omega arith)) ∙ same ∙ get_or-map (λ (p : ℕ × OpenQuery). p.0) l j none d long)

pairs-keys : (l : List (ℕ × OpenQuery)) → AllPairs (λ s t. s ≢ t) (keys l) → AllPairs (λ p q. p.0 ≢ q.0) l
pairs-keys l all i j d lt within =
    λ same. all i j d.0 lt (omega (arith, length-map l (λ (p : ℕ × OpenQuery). p.0)))
    (get_or-map (λ (p : ℕ × OpenQuery). p.0) l i d d.0 (omega arith) ∙ same ∙ sym (get_or-map (λ (p : ℕ × OpenQuery). p.0) l j d d.0 within))

sound-fired_query_at : (P : OpenQuery → Type 0) (t : ℕ) (x : OpenQuery) (l : List (ℕ × OpenQuery)) → P x → All (λ p. P p.1) l → All (λ p. P p.1) (with_fired_query_at t x l)
sound-fired_query_at P t x [] px all = all
sound-fired_query_at P t x (p ∷ ps) px all = by (t == p.0) (sound-fired_query_at P t x ps px (All-tail (λ (p : ℕ × OpenQuery). P p.1) p ps all))
  where
    by : (b : Bool) → All (λ p. P p.1) (with_fired_query_at t x ps) → All (λ p. P p.1) (cond b ((p.0, x) ∷ ps) (p ∷ with_fired_query_at t x ps))
    by true rest = All-cons (λ (p : ℕ × OpenQuery). P p.1) (p.0, x) ps px (All-tail (λ (p : ℕ × OpenQuery). P p.1) p ps all)
    by false rest = All-cons (λ (p : ℕ × OpenQuery). P p.1) p (with_fired_query_at t x ps) (All-head (λ (p : ℕ × OpenQuery). P p.1) p ps all) rest

ready-fired_queries : (i : IdealAgent) (fired_queries : List (ℕ × OpenQuery)) → IsReady i → All (λ p. p.0 < i.queries.clock) fired_queries → AllPairs (λ p q. p.0 ≢ q.0) fired_queries → All (λ p. IsOpenQuerySound p.1) fired_queries → IsReady (with_fired_queries fired_queries i)
ready-fired_queries i fired_queries g below distinct sound =
    let s = g.consistent.sound in
    record {
      consistent = record {
        sound = record { config = s.config; member_clock = s.member_clock; events = s.events; queries = s.queries; short = s.short; snapshot = s.snapshot; fired_queries_below = below; fired_queries_distinct = distinct; fired_queries_sound = sound };
        observable = g.consistent.observable;
      };
      events = g.events;
      queries = g.queries;
    }

-- a name that isn't in the list
pub fresh-name : {X : Type 0} (f : X → List ℕ) (l : List X) (name : List ℕ) → list_any (λ a. bytes_eq (f a) name) l ≡ false → All (λ a. f a ≢ name) l
fresh-name f [] name none = All-nil (λ a. f a ≢ name)
fresh-name f (x ∷ xs) name none =
    let parts = or_parts (bytes_eq (f x) name) (list_any (λ a. bytes_eq (f a) name) xs) none in
    All-cons (λ a. f a ≢ name) x xs (λ same. true≢false (sym ((bytes_eq-Decides (f x) name).1 same) ∙ parts.0)) (fresh-name f xs name parts.1)

-- an answer that is counted has a new name
sound-counted : (i : IdealAgent) (now : ℕ) (r : QueryResponse) (q : OpenQuery) → IsOpenQuerySound q → answer_ignore_reason now r q ≡ None → IsOpenQuerySound (counted r q)
sound-counted i now r q s is =
    let id = none-if (not (q.id == r.id)) OtherId _ is in
    let deadline = none-if (nat_lt q.deadline now) Closed _ id.1 in
    by (is_ack r) deadline.1
  where
    by : (b : Bool) → cond b (ack_ignore_reason r.from q) (response_ignore_reason r.from q) ≡ None
        → IsOpenQuerySound (cond b (record { id = q.id; deadline = q.deadline; wants_ack = q.wants_ack; acks = q.acks ++ r.from ∷ []; responses = q.responses })
        (record { id = q.id; deadline = q.deadline; wants_ack = q.wants_ack; acks = q.acks; responses = q.responses ++ record { from = r.from; payload = r.payload } ∷ [] }))
    by true e =
        let fired_queries = none-if (not q.wants_ack) AckNotRequested _ e in
        let fresh = none-if (has_acked q r.from) AckTwice None fired_queries.1 in
        record { acks = all_pairs_push (λ a b. a ≢ b) q.acks r.from s.acks (fresh-name (λ a. a) q.acks r.from fresh.0); responses = s.responses }
    by false e =
        let fresh = none-if (has_responded q r.from) ResponseTwice None e in
        record { acks = s.acks; responses = all_pairs_push (λ (a b : Response). a.from ≢ b.from) q.responses (record { from = r.from; payload = r.payload }) s.responses (fresh-name (λ (a : Response). a.from) q.responses r.from fresh.0) }

pub ready-counted : (i : IdealAgent) (now : ℕ) (r : QueryResponse) (q : OpenQuery) → IsReady i → fired_query_at r.time i.fired_queries ≡ Some q → answer_ignore_reason now r q ≡ None → IsReady (with_fired_queries (with_fired_query_at r.time (counted r q) i.fired_queries) i)
ready-counted i now r q g at is =
    let s = g.consistent.sound in
    let same = keys-fired_query_at r.time (counted r q) i.fired_queries in
    let l : List (ℕ × OpenQuery) = with_fired_query_at r.time (counted r q) i.fired_queries in
    ready-fired_queries i l g
    (all-keys (λ t. t < i.queries.clock) l (subst (All (λ t. t < i.queries.clock)) (sym same) (keys-all (λ t. t < i.queries.clock) i.fired_queries s.fired_queries_below)))
    (pairs-keys l (subst (AllPairs (λ s t. s ≢ t)) (sym same) (keys-pairs i.fired_queries s.fired_queries_distinct)))
    (sound-fired_query_at IsOpenQuerySound r.time (counted r q) i.fired_queries (sound-counted i now r q (fired_queries-found (λ p. IsOpenQuerySound p.1) r.time i.fired_queries q s.fired_queries_sound at) is) s.fired_queries_sound)

pairs-cons : {X : Type 0} (R : X → X → Type 0) (x : X) (xs : List X) → All (λ y. R x y) xs → AllPairs R xs → AllPairs R (x ∷ xs)
pairs-cons R x xs first rest zero zero d lt within = absurd (omega arith)
pairs-cons R x xs first rest zero (suc j) d lt within = first j d (omega arith)
pairs-cons R x xs first rest (suc i) zero d lt within = absurd (omega arith)
pairs-cons R x xs first rest (suc i) (suc j) d lt within = rest i j d (omega arith) (omega arith)

pairs-filter : {X : Type 0} (R : X → X → Type 0) (test : X → Bool) (xs : List X) → AllPairs R xs → AllPairs R (filter test xs)
pairs-filter R test [] all = all
pairs-filter {X} R test (x ∷ xs) all = by (test x) (pairs-filter R test xs (pairs-rest R x xs all))
  where
    far : All (λ y. R x y) xs
    far k d h = all 0 (suc k) d (omega arith) (omega arith)

    by : (b : Bool) → AllPairs R (filter test xs) → AllPairs R (cond b (x ∷ filter test xs) (filter test xs))
    by true rest = pairs-cons R x (filter test xs) (All-filter test (λ y. R x y) xs far) rest
    by false rest = rest

pub ready-closed : (i : IdealAgent) (now : ℕ) → IsReady i → IsReady (close_due i now).agent
ready-closed i now g =
    let s = g.consistent.sound in
    let keep : ℕ × OpenQuery → Bool = λ q. not (is_due now q) in
    ready-fired_queries i (filter keep i.fired_queries) g (All-filter keep (λ p. p.0 < i.queries.clock) i.fired_queries s.fired_queries_below) (pairs-filter (λ p q. p.0 ≢ q.0) keep i.fired_queries s.fired_queries_distinct) (All-filter keep (λ p. IsOpenQuerySound p.1) i.fired_queries s.fired_queries_sound)

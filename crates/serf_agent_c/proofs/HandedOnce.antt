-- What was handed out once is still handed out once if it is read in another order or in part. What was met stays met.
-- What reaches an agent is accepted if it is admitted.
use Rattle.serf_agent_c.proofs.Names.{Bool, Err, List, None, Ok, Option, Result, Some, [], ap, append-nil, append_assoc, arith, cond, false, inl, inr, map, refl, subst, suc, sym, true, ℕ, ◌&&◌, ◌++◌, ◌+◌, ◌<◌, ◌==◌, ◌∙◌, ◌∷◌, ◌≡◌, ◌≢◌, ◌≤◌, ◌⊎◌, and_from, and_parts, eq-eqb, eqb-true, true≢false, All-append, All-cons, All-contains, All-head, All-nil, All-tail, All-weaker, Contains-append_left, Contains-append_right, AllPairs-cons, bytes_eq-Decides, fold, All, AllPairs, Contains, max, observed, Message, PushPull, foreign, push_pull, query, query_response, user_event, WireError, EventBody, Kept, event_of, same_texts, TimedEntry, ended, admission, received_as, IdealAgent, Past, HasMet, IsFull, IsMet, Act, event_entry, events_out, queries_out, query_entries, IsOnce, query_admission, query_received_as, receive_read, events_of, handed_by, heard_by, TakesOrFull, BringsQuery, TrackOf, got_query, Config, EventOut, Reason, events_in, handed_in, BringsEvent, HoldsEvent, GivesNothing, CallResult}
use Rattle.std.specs.Prelude.{map}
use Rattle.serf_wire.specs.Message.{Query as WireQuery}

pub pairs-head : {A : Type 0} (R : A → A → Type 0) (x : A) (xs : List A) → AllPairs R (x ∷ xs) → All (R x) xs
pairs-head R x xs h = λ k d within. h 0 (suc k) d (omega arith) (omega arith)

pub pairs-tail : {A : Type 0} (R : A → A → Type 0) (x : A) (xs : List A) → AllPairs R (x ∷ xs) → AllPairs R xs
pairs-tail R x xs h = λ i j d lt within. h (suc i) (suc j) d (omega arith) (omega arith)

pub pairs-append : {A : Type 0} (R : A → A → Type 0) (xs ys : List A) → AllPairs R xs → AllPairs R ys → All (λ x. All (R x) ys) xs → AllPairs R (xs ++ ys)
pairs-append {A} R [] ys front back across = back
pairs-append {A} R (x ∷ xs) ys front back across =
    AllPairs-cons R x (xs ++ ys) (All-append (R x) xs ys (pairs-head R x xs front) (All-head (λ (y : A). All (R y) ys) x xs across))
    (pairs-append R xs ys (pairs-tail R x xs front) back (All-tail (λ (y : A). All (R y) ys) x xs across))

pub record InTwo {A : Type 0} (P : A → Type 0) (xs ys : List A) : Type 0 where
  pub front : All P xs
  pub back : All P ys

pub in-two : {A : Type 0} (P : A → Type 0) (xs ys : List A) → All P (xs ++ ys) → InTwo P xs ys
in-two P [] ys all = record { front = All-nil P; back = all }
in-two P (x ∷ xs) ys all =
    let t = in-two P xs ys (All-tail P x (xs ++ ys) all) in
    record { front = All-cons P x xs (All-head P x (xs ++ ys) all) t.front; back = t.back }

pub record Parts {A : Type 0} (R : A → A → Type 0) (xs ys : List A) : Type 0 where
  pub front : AllPairs R xs
  pub back : AllPairs R ys
  pub across : All (λ x. All (R x) ys) xs

pub pairs-parts : {A : Type 0} (R : A → A → Type 0) (xs ys : List A) → AllPairs R (xs ++ ys) → Parts R xs ys
pairs-parts {A} R [] ys h = record { front = λ i j d lt within. absurd (omega arith); back = h; across = All-nil (λ (x : A). All (R x) ys) }
pairs-parts {A} R (x ∷ xs) ys h =
    let t = pairs-parts R xs ys (pairs-tail R x (xs ++ ys) h) in
    let two = in-two (R x) xs ys (pairs-head R x (xs ++ ys) h) in
    record { front = AllPairs-cons R x xs two.front t.front; back = t.back; across = All-cons (λ (y : A). All (R y) ys) x xs two.back t.across }

pub weaker : {A : Type 0} (P Q : A → Type 0) → ((x : A) → P x → Q x) → (xs : List A) → All P xs → All Q xs
weaker P Q f [] all = All-nil Q
weaker P Q f (x ∷ xs) all = All-cons Q x xs (f x (All-head P x xs all)) (weaker P Q f xs (All-tail P x xs all))

pub flipped : {A : Type 0} (R : A → A → Type 0) → ((x y : A) → R x y → R y x) → (ys zs : List A) → All (λ y. All (R y) zs) ys → All (λ z. All (R z) ys) zs
flipped {A} R turn ys [] all = All-nil (λ (z : A). All (R z) ys)
flipped {A} R turn ys (z ∷ zs) all =
    All-cons (λ (w : A). All (R w) ys) z zs (weaker (λ (y : A). All (R y) (z ∷ zs)) (R z) (λ y h. turn y z (All-head (R y) z zs h)) ys all)
    (flipped R turn ys zs (weaker (λ (y : A). All (R y) (z ∷ zs)) (λ (y : A). All (R y) zs) (λ y h. All-tail (R y) z zs h) ys all))

pub paired : {A : Type 0} (R : A → A → Type 0) (zs ys xs : List A) → All (λ x. All (R x) zs) xs → All (λ x. All (R x) ys) xs → All (λ x. All (R x) (zs ++ ys)) xs
paired {A} R zs ys [] a b = All-nil (λ (x : A). All (R x) (zs ++ ys))
paired {A} R zs ys (x ∷ xs) a b =
    All-cons (λ (w : A). All (R w) (zs ++ ys)) x xs (All-append (R x) zs ys (All-head (λ (w : A). All (R w) zs) x xs a) (All-head (λ (w : A). All (R w) ys) x xs b))
    (paired R zs ys xs (All-tail (λ (w : A). All (R w) zs) x xs a) (All-tail (λ (w : A). All (R w) ys) x xs b))

pub all-swapped : {A : Type 0} (P : A → Type 0) (xs ys zs : List A) → All P ((xs ++ ys) ++ zs) → All P (xs ++ (zs ++ ys))
all-swapped P xs ys zs all =
    let a = in-two P (xs ++ ys) zs all in
    let b = in-two P xs ys a.front in
    All-append P xs (zs ++ ys) b.front (All-append P zs ys a.back b.back)

pub pairs-swapped : {A : Type 0} (R : A → A → Type 0) → ((x y : A) → R x y → R y x) → (xs ys zs : List A) → AllPairs R ((xs ++ ys) ++ zs) → AllPairs R (xs ++ (zs ++ ys))
pairs-swapped {A} R turn xs ys zs h =
    let a = pairs-parts R (xs ++ ys) zs h in
    let b = pairs-parts R xs ys a.front in
    let c = in-two (λ (x : A). All (R x) zs) xs ys a.across in
    pairs-append R xs (zs ++ ys) b.front (pairs-append R zs ys a.back b.back (flipped R turn ys zs c.back)) (paired R zs ys xs c.front b.across)

once-swapped : {K : Type 0} (history : List (Past K)) (xs ys zs : List (TimedEntry K)) → IsOnce history ((xs ++ ys) ++ zs) → IsOnce history (xs ++ (zs ++ ys))
once-swapped {K} history xs ys zs h = record {
  once = pairs-swapped (λ x y. x ≢ y) (λ x y other same. other (sym same)) xs ys zs h.once;
  fresh = λ e all. all-swapped (λ (x : TimedEntry K). x ≢ e) xs ys zs (h.fresh e all);
  below = λ t all. all-swapped (λ (x : TimedEntry K). x.time < t) xs ys zs (h.below t all);
}

once-front : {K : Type 0} (history : List (Past K)) (xs ys : List (TimedEntry K)) → IsOnce history (xs ++ ys) → IsOnce history xs
once-front {K} history xs ys h = record {
  once = (pairs-parts (λ x y. x ≢ y) xs ys h.once).front;
  fresh = λ e all. (in-two (λ (x : TimedEntry K). x ≢ e) xs ys (h.fresh e all)).front;
  below = λ t all. (in-two (λ (x : TimedEntry K). x.time < t) xs ys (h.below t all)).front;
}

nothing-once : {K : Type 0} (history : List (Past K)) → IsOnce history []
nothing-once {K} history = record { once = λ i j d lt within. absurd (omega arith); fresh = λ e all. All-nil (λ (x : TimedEntry K). x ≢ e); below = λ t all. All-nil (λ (x : TimedEntry K). x.time < t) }

-- ---- events and queries together

-- events and queries that were handed out
pub record Given : Type 0 where
  pub events : List (TimedEntry EventBody)
  pub queries : List (TimedEntry ℕ)

abbrev pub both : List (TimedEntry EventBody) → List (TimedEntry ℕ) → Given
both es qs = record { events = es; queries = qs }

abbrev pub nothing : Given
nothing = both [] []

infixr 5 ◌⊕◌
abbrev pub ◌⊕◌ : Given → Given → Given
a ⊕ b = both (a.events ++ b.events) (a.queries ++ b.queries)

both-same : (es fs : List (TimedEntry EventBody)) (qs rs : List (TimedEntry ℕ)) → es ≡ fs → qs ≡ rs → both es qs ≡ both fs rs
both-same es fs qs rs events queries = ap (λ (xs : List (TimedEntry EventBody)). both xs qs) events ∙ ap (λ (xs : List (TimedEntry ℕ)). both fs xs) queries

pub join-nothing : (a : Given) → a ⊕ nothing ≡ a
join-nothing a = both-same (a.events ++ []) a.events (a.queries ++ []) a.queries (append-nil a.events) (append-nil a.queries)

pub join-assoc : (a b c : Given) → (a ⊕ b) ⊕ c ≡ a ⊕ (b ⊕ c)
join-assoc a b c = both-same ((a.events ++ b.events) ++ c.events) (a.events ++ (b.events ++ c.events)) ((a.queries ++ b.queries) ++ c.queries) (a.queries ++ (b.queries ++ c.queries)) (append_assoc a.events b.events c.events) (append_assoc a.queries b.queries c.queries)

abbrev pub only_events : List EventOut → Given
only_events es = both (map event_entry es) []

-- what an act of the agent hands out, and the result of a call
abbrev pub outs : IdealAgent → Act → Given
outs i act = both (events_out i act) (queries_out i act)

abbrev pub call_result_entries : CallResult → Given
call_result_entries call_result = both (map event_entry (events_in call_result)) (query_entries (handed_in call_result))

pub gives-none : (g : CallResult) → GivesNothing g → call_result_entries g ≡ nothing
gives-none g none = both-same (map event_entry (events_in g)) [] (query_entries (handed_in g)) [] (ap (λ (es : List EventOut). map event_entry es) none.events) (ap query_entries none.handed)

-- an agent remembers these as handed out, each of them once
abbrev pub Knows : IdealAgent → Given → Type 0
Knows i a = IsOnce i.events.history a.events × IsOnce i.queries.history a.queries

-- an agent remembers everything that another one does
abbrev pub Recalls : IdealAgent → IdealAgent → Type 0
Recalls i j = (a : Given) → Knows i a → Knows j a

pub knows-swapped : (i : IdealAgent) (a b c : Given) → Knows i ((a ⊕ b) ⊕ c) → Knows i (a ⊕ (c ⊕ b))
knows-swapped i a b c k = (once-swapped i.events.history a.events b.events c.events k.0, once-swapped i.queries.history a.queries b.queries c.queries k.1)

pub knows-front : (i : IdealAgent) (a b : Given) → Knows i (a ⊕ b) → Knows i a
knows-front i a b k = (once-front i.events.history a.events b.events k.0, once-front i.queries.history a.queries b.queries k.1)

pub knows-nothing : (i : IdealAgent) → Knows i nothing
knows-nothing i = (nothing-once i.events.history, nothing-once i.queries.history)

-- ---- what was met

-- everything that was met stays met
abbrev pub Wider : {K : Type 0} → List (TimedEntry K) → List (TimedEntry K) → List (TimedEntry K) → List (TimedEntry K) → Type 0
Wider {K} handed stood handed_more stood_more = (e : TimedEntry K) → IsMet handed stood e → IsMet handed_more stood_more e

has-met-wider : {K : Type 0} (k t : ℕ) (handed stood handed_more stood_more : List (TimedEntry K)) → Wider handed stood handed_more stood_more → HasMet k t handed stood → HasMet k t handed_more stood_more
has-met-wider {K} k t handed stood handed_more stood_more wider h = record {
  entries = h.entries;
  many = h.many;
  distinct = h.distinct;
  met = All-weaker (λ (e : TimedEntry K). (e.time ≡ t) × IsMet handed stood e) (λ (e : TimedEntry K). (e.time ≡ t) × IsMet handed_more stood_more e) (λ e m. (m.0, wider e m.1)) h.entries h.met;
}

pub full-wider : {K : Type 0} (k t : ℕ) (handed stood handed_more stood_more : List (TimedEntry K)) → Wider handed stood handed_more stood_more → IsFull k t handed stood → IsFull k t handed_more stood_more
full-wider k t handed stood handed_more stood_more wider (inl h) = inl (has-met-wider k t handed stood handed_more stood_more wider h)
full-wider k t handed stood handed_more stood_more wider (inr h) = inr (h.0, h.1, has-met-wider (k + 1) h.0 handed stood handed_more stood_more wider h.2)

pub goes-wider : {K : Type 0} (which : TrackOf K) (t : ℕ) (config : Config) (handed stood handed_more stood_more : List (TimedEntry K)) (i : IdealAgent) → Wider handed stood handed_more stood_more → TakesOrFull which t config handed stood i → TakesOrFull which t config handed_more stood_more i
goes-wider {K} which t config handed stood handed_more stood_more i wider (inl s) = inl (record {
  settings = s.settings;
  opens = record {
    last = s.opens.last;
    known = All-weaker (λ (p : Past K). IsMet handed stood p.entry) (λ (p : Past K). IsMet handed_more stood_more p.entry) (λ p m. wider p.entry m) (which.track i).history s.opens.known;
    minimum = s.opens.minimum;
    lowest = s.opens.lowest;
  };
})
goes-wider which t config handed stood handed_more stood_more i wider (inr full) = inr (full-wider config.per_time t handed stood handed_more stood_more wider full)

-- for one list of everything that was met
pub adds : {K : Type 0} (xs ys : List (TimedEntry K)) → Wider xs [] (xs ++ ys) []
adds xs ys e (inl there) = inl (Contains-append_left xs ys e there)
adds xs ys e (inr there) = inr there

pub joins : {K : Type 0} (xs ys : List (TimedEntry K)) → Wider xs ys (xs ++ ys) []
joins xs ys e (inl there) = inl (Contains-append_left xs ys e there)
joins xs ys e (inr there) = inl (Contains-append_right xs ys e there)

pub only-in : {K : Type 0} (x e : TimedEntry K) → Contains (x ∷ []) e → e ≡ x
only-in {K} x e there = All-contains (λ (y : TimedEntry K). y ≡ x) (x ∷ []) e (All-cons (λ (y : TimedEntry K). y ≡ x) x [] refl (All-nil (λ (y : TimedEntry K). y ≡ x))) there

-- whether two events are the same
pub same_entry : (x e : TimedEntry EventBody) → (x ≡ e) ⊎ (x ≢ e)
same_entry x e = by ((x.time == e.time) && same_texts x.key e.key) refl
  where
    itself : same_texts x.key x.key ≡ true
    itself = and_from _ _ ((bytes_eq-Decides x.key.name x.key.name).1 refl) ((bytes_eq-Decides x.key.payload x.key.payload).1 refl)

    equal : x ≡ e → ((x.time == e.time) && same_texts x.key e.key) ≡ true
    equal same = subst (λ (y : TimedEntry EventBody). ((x.time == y.time) && same_texts x.key y.key) ≡ true) same (and_from _ _ (eq-eqb x.time x.time refl) itself)

    by : (b : Bool) → ((x.time == e.time) && same_texts x.key e.key) ≡ b → (x ≡ e) ⊎ (x ≢ e)
    by true is =
        let parts = and_parts _ _ is in
        let texts = and_parts _ _ parts.1 in
        let time : x.time ≡ e.time = eqb-true _ _ parts.0 in
        let name : x.key.name ≡ e.key.name = (bytes_eq-Decides x.key.name e.key.name).0 texts.0 in
        let payload : x.key.payload ≡ e.key.payload = (bytes_eq-Decides x.key.payload e.key.payload).0 texts.1 in
        inl (λ k. record { time = time k; key = record { name = name k; payload = payload k } })
    by false is = inr (λ same. true≢false (sym (equal same) ∙ is))

-- a call that is made
pub made-now : {A : Type 0} (b : Bool) (xs : List A) → b ≡ true → xs ≡ cond b xs []
made-now true xs is = refl
made-now false xs is = absurd (cc is)

pub none-there : {K : Type 0} (e : TimedEntry K) → Contains [] e → ⊥
none-there e there = absurd (let lt = there.1 in omega arith)

pub unmet : {K : Type 0} (met : List (TimedEntry K)) (e : TimedEntry K) → (Contains met e → ⊥) → IsMet met [] e → ⊥
unmet met e new (inl there) = new there
unmet met e new (inr there) = none-there e there

-- ---- what reaches an agent

-- what is admitted is accepted: an event, and a query
pub event-in : (i : IdealAgent) (t : ℕ) (what : EventBody) (flag : Bool) (r : Option Reason) → r ≡ None → map event_entry (handed_by (ended i (received_as r i t what flag) Kept).answer) ≡ record { time = t; key = what } ∷ []
event-in i t what flag (Some reason) none = absurd (cc none)
event-in i t what flag None none = refl

pub event-read : (tags : Bool) (i : IdealAgent) (now : ℕ) (e : TimedEntry EventBody) (r : Result Message WireError) → BringsEvent e r → admission i e.time e.key ≡ None → map event_entry (handed_by (ended i (receive_read tags i now r) Kept).answer) ≡ e ∷ []
event-read tags i now e (Ok (user_event m)) brings new =
    let same : (record { time = m.time; key = event_of m.name m.payload }) ≡ e = (λ k. record { time = brings.0 k; key = brings.1 k }) in
    let none : admission i m.time (event_of m.name m.payload) ≡ None = subst (λ (x : TimedEntry EventBody). admission i x.time x.key ≡ None) (sym same) new in
    subst (λ (x : TimedEntry EventBody). map event_entry (handed_by (ended i (receive_read tags i now (Ok (user_event m))) Kept).answer) ≡ x ∷ []) same (event-in i m.time (event_of m.name m.payload) m.coalesce (admission i m.time (event_of m.name m.payload)) none)
event-read tags i now e (Ok (query q)) none new = absurd none
event-read tags i now e (Ok (query_response r)) none new = absurd none
event-read tags i now e (Ok (push_pull m)) none new = absurd none
event-read tags i now e (Ok (foreign k)) none new = absurd none
event-read tags i now e (Err error) none new = absurd none

pub query-in : (tags : Bool) (i : IdealAgent) (now : ℕ) (q : WireQuery) (r : Option Reason) → r ≡ None → got_query (Ok (query q)) (ended i (query_received_as tags r i now q) Kept).answer ≡ record { time = q.time; key = q.id } ∷ []
query-in tags i now q (Some reason) none = absurd (cc none)
query-in tags i now q None none = refl

pub query-read : (tags : Bool) (i : IdealAgent) (now : ℕ) (e : TimedEntry ℕ) (r : Result Message WireError) → BringsQuery e r → query_admission i e.time e.key ≡ None → got_query r (ended i (receive_read tags i now r) Kept).answer ≡ e ∷ []
query-read tags i now e (Ok (query q)) brings new =
    let same : (record { time = q.time; key = q.id }) ≡ e = (λ k. record { time = brings.0 k; key = brings.1 k }) in
    let none : query_admission i q.time q.id ≡ None = subst (λ (x : TimedEntry ℕ). query_admission i x.time x.key ≡ None) (sym same) new in
    subst (λ (x : TimedEntry ℕ). got_query (Ok (query q)) (ended i (receive_read tags i now (Ok (query q))) Kept).answer ≡ x ∷ []) same (query-in tags i now q (query_admission i q.time q.id) none)
query-read tags i now e (Ok (user_event m)) none new = absurd none
query-read tags i now e (Ok (query_response r)) none new = absurd none
query-read tags i now e (Ok (push_pull m)) none new = absurd none
query-read tags i now e (Ok (foreign k)) none new = absurd none
query-read tags i now e (Err error) none new = absurd none

-- a clock that observes times
abbrev pub rising : ℕ → List (TimedEntry EventBody) → ℕ
rising clock es = fold (λ c e. observed c e.time) clock es

pub rising-up : (clock : ℕ) (es : List (TimedEntry EventBody)) → clock ≤ rising clock es
rising-up clock [] = omega arith
rising-up clock (e ∷ es) = let more = rising-up (observed clock e.time) es in omega (arith, more)

pub received-low : (i : IdealAgent) (t clock : ℕ) (what : EventBody) (r : Option Reason) → i.events.clock ≤ clock → (ended i (received_as r i t what false) Kept).agent.events.clock ≤ observed clock t
received-low i t clock what (Some reason) low = omega (arith, low)
received-low i t clock what None low = omega (arith, low)

pub heard-low : (i : IdealAgent) (m : PushPull) (join : Bool) (line : Option (List ℕ)) (clock : ℕ) → i.events.clock ≤ clock → (ended i (heard_by line i m join) Kept).agent.events.clock ≤ max clock m.event_clock
heard-low i m join None clock low = omega (arith, low)
heard-low i m join (Some line) clock low = omega (arith, low)

-- if an event that is received hands out anything, it is this event
pub received-outs : (i : IdealAgent) (x : TimedEntry EventBody) (r : Option Reason) → All (λ y. y ≡ x) (map event_entry (handed_by (ended i (received_as r i x.time x.key false) Kept).answer))
received-outs i x (Some reason) = All-nil (λ (y : TimedEntry EventBody). y ≡ x)
received-outs i x None = All-cons (λ (y : TimedEntry EventBody). y ≡ x) x [] refl (All-nil (λ (y : TimedEntry EventBody). y ≡ x))

-- the state of a packet that holds an event
pub record HeldIn (e : TimedEntry EventBody) (r : Result Message WireError) : Type 0 where
  pub state : PushPull
  pub is : r ≡ Ok (push_pull state)
  pub there : Contains (events_of state.slots) e

pub held-in : (e : TimedEntry EventBody) (r : Result Message WireError) → HoldsEvent e r → HeldIn e r
held-in e (Ok (push_pull m)) there = record { state = m; is = refl; there = there }
held-in e (Ok (user_event u)) wrong = absurd wrong
held-in e (Ok (query q)) wrong = absurd wrong
held-in e (Ok (query_response q)) wrong = absurd wrong
held-in e (Ok (foreign k)) wrong = absurd wrong
held-in e (Err f) wrong = absurd wrong

-- Open queries by their times, and the answers to the query of a time.
use Rattle.serf_model.proofs.Names.{Bool, List, Some, [], ap, arith, cond, false, map, nat_eq, refl, subst, suc, sym, true, ℕ, ◌++◌, ◌<◌, ◌==◌, ◌∙◌, ◌∷◌, ◌≡◌, ◌≢◌, eq-eqb, eqb-false, eqb-true, ne_eqb, append-nil, All-cons, All-head, All-nil, All-tail, All-weaker, filter-append, All, AllPairs, QueryResponse, fired_query_at, with_fired_query_at, OpenQuery, to_time}
use Rattle.std.specs.Prelude.{filter}

-- ---- lists

-- what holds of the images of all elements that pass a test
pub passing : {X Y : Type 0} (P : Y → Type 0) (f : X → Y) (test : X → Bool) (xs : List X) → All P (map f (filter test xs)) → All (λ x. test x ≡ true → P (f x)) xs
passing P f test [] all = All-nil (λ x. test x ≡ true → P (f x))
passing {X} {Y} P f test (x ∷ xs) all = by (test x) refl all (passing P f test xs)
  where
    by : (b : Bool) → test x ≡ b → All P (map f (cond b (x ∷ filter test xs) (filter test xs))) → (All P (map f (filter test xs)) → All (λ x. test x ≡ true → P (f x)) xs) → All (λ x. test x ≡ true → P (f x)) (x ∷ xs)
    by true is h rest = All-cons (λ x. test x ≡ true → P (f x)) x xs (λ e. All-head P (f x) (map f (filter test xs)) h) (rest (All-tail P (f x) (map f (filter test xs)) h))
    by false is h rest = All-cons (λ x. test x ≡ true → P (f x)) x xs (λ e. absurd (let never : false ≡ true = sym is ∙ e in cc)) (rest h)

-- if all answers are to earlier times, none is to this time
pub none-to_time : (t : ℕ) (rs : List QueryResponse) → All (λ r. r.time < t) rs → to_time t rs ≡ []
none-to_time t [] all = refl
none-to_time t (r ∷ rs) all =
    let first : r.time < t = All-head (λ (r : QueryResponse). r.time < t) r rs all in
    let differs : (r.time == t) ≡ false = ne_eqb r.time t (λ e. omega arith) in
    rw differs (none-to_time t rs (All-tail (λ (r : QueryResponse). r.time < t) r rs all))

-- the answers to a time after one more answer: first to another time, then to this one
pub to_time-other : (t : ℕ) (rs : List QueryResponse) (r : QueryResponse) (b : Bool) → (r.time ≡ t → ⊥) → to_time t (rs ++ cond b (r ∷ []) []) ≡ to_time t rs
to_time-other t rs r false differs = ap (to_time t) (append-nil rs)
to_time-other t rs r true differs = filter-append (λ (r : QueryResponse). r.time == t) rs (r ∷ []) ∙ ap (λ b. to_time t rs ++ cond b (r ∷ []) []) (ne_eqb r.time t differs) ∙ append-nil (to_time t rs)

pub to_time-same : (rs : List QueryResponse) (r : QueryResponse) → to_time r.time (rs ++ r ∷ []) ≡ to_time r.time rs ++ r ∷ []
to_time-same rs r = filter-append (λ (x : QueryResponse). x.time == r.time) rs (r ∷ []) ∙ ap (λ b. to_time r.time rs ++ cond b (r ∷ []) []) (eq-eqb r.time r.time refl)

-- ---- open queries by their times

-- if P holds of all open queries, it holds of the open query of a time
pub fired_queries-found : (P : ℕ × OpenQuery → Type 0) (t : ℕ) (l : List (ℕ × OpenQuery)) (q : OpenQuery) → All P l → fired_query_at t l ≡ Some q → P (t, q)
fired_queries-found P t [] q all is = absurd (cc is)
fired_queries-found P t (p ∷ ps) q all is = by (nat_eq t p.0) refl is (fired_queries-found P t ps q (All-tail P p ps all))
  where
    by : (b : Bool) → nat_eq t p.0 ≡ b → cond b (Some p.1) (fired_query_at t ps) ≡ Some q → (fired_query_at t ps ≡ Some q → P (t, q)) → P (t, q)
    by true here e rest =
        let same : p.1 ≡ q = cc e in
        subst (λ (x : OpenQuery). P (t, x)) same (subst (λ (s : ℕ). P (s, p.1)) (sym (eqb-true t p.0 here)) (All-head P p ps all))
    by false here e rest = rest e

pairs-first : {X : Type 0} (R : X → X → Type 0) (x : X) (xs : List X) → AllPairs R (x ∷ xs) → All (λ y. R x y) xs
pairs-first R x xs all k d h = all 0 (suc k) d (omega arith) (omega arith)

pub pairs-rest : {X : Type 0} (R : X → X → Type 0) (x : X) (xs : List X) → AllPairs R (x ∷ xs) → AllPairs R xs
pairs-rest R x xs all i j d lt within = all (suc i) (suc j) d (omega arith) (omega arith)

-- if no query in the list has the time t, and P implies Q for queries of other times, Q holds of the whole list
all-other : (P Q : ℕ × OpenQuery → Type 0) (t : ℕ) (l : List (ℕ × OpenQuery)) → All (λ p. p.0 ≢ t) l → All P l → ((p : ℕ × OpenQuery) → p.0 ≢ t → P p → Q p) → All Q l
all-other P Q t [] far all others = All-nil Q
all-other P Q t (p ∷ ps) far all others =
    All-cons Q p ps (others p (All-head (λ (p : ℕ × OpenQuery). p.0 ≢ t) p ps far) (All-head P p ps all)) (all-other P Q t ps (All-tail (λ (p : ℕ × OpenQuery). p.0 ≢ t) p ps far) (All-tail P p ps all) others)

-- after one open query was replaced, Q holds of all of them if it holds of the new one and P implies it for the others
pub fired_queries-replaced : (P Q : ℕ × OpenQuery → Type 0) (t : ℕ) (x : OpenQuery) (l : List (ℕ × OpenQuery)) → AllPairs (λ p q. p.0 ≢ q.0) l → All P l → ((p : ℕ × OpenQuery) → p.0 ≢ t → P p → Q p) → Q (t, x) → All Q (with_fired_query_at t x l)
fired_queries-replaced P Q t x [] distinct all others one = All-nil Q
fired_queries-replaced P Q t x (p ∷ ps) distinct all others one = by (nat_eq t p.0) refl (fired_queries-replaced P Q t x ps (pairs-rest (λ (p q : ℕ × OpenQuery). p.0 ≢ q.0) p ps distinct) (All-tail P p ps all) others one)
  where
    by : (b : Bool) → nat_eq t p.0 ≡ b → All Q (with_fired_query_at t x ps) → All Q (cond b ((p.0, x) ∷ ps) (p ∷ with_fired_query_at t x ps))
    by true here rest =
        let same : t ≡ p.0 = eqb-true t p.0 here in
        All-cons Q (p.0, x) ps (subst (λ (s : ℕ). Q (s, x)) same one)
        (all-other P Q t ps (All-weaker (λ (q : ℕ × OpenQuery). p.0 ≢ q.0) (λ (q : ℕ × OpenQuery). q.0 ≢ t) (λ q far e. far (sym same ∙ sym e)) ps (pairs-first (λ (p q : ℕ × OpenQuery). p.0 ≢ q.0) p ps distinct)) (All-tail P p ps all) others)
    by false here rest = All-cons Q p (with_fired_query_at t x ps) (others p (λ e. eqb-false t p.0 here (sym e)) (All-head P p ps all)) rest

-- Which action set a number, while one action after another is done.
use Rattle.serf_explain.proofs.Names.{Bool, List, None, Option, Some, [], ap, arith, inl, inr, length, length-append, refl, subst, suc, sym, zero, ℕ, ◌++◌, ◌+◌, ◌<◌, ◌==◌, ◌∙◌, ◌∷◌, ◌≡◌, ◌⊎◌, cases_Bool, eq-eqb, eqb-true, length-map, map-append, slice_get-map, option_map, if◌then◌else◌, nat_eq, slice_get, slice_set, get, IdealAgent, ConcreteState, view_of, Config, Cluster, IdealNode, apply, first_node, on_agent, start, step, with_handed, Act, IsViewed, WorldState, agent_at, AreNumbers, HoldMarks, IsLooked, IsMark, IsMarkOf, first_numbers, mark_after, marks_or_first, numbers_after, numbers_of, IsSince, events_clock, events_min, number_in, number_or_one, numbers_in, queries_clock, queries_min, AllMarks, Mark, Marks, Numbers}
use Rattle.serf_model.specs.declared.action.Action.TheVariants as actions
use Rattle.serf_explain.proofs.MergeLaws.{agent-is, node-of}

-- an element of a list to which one more number was appended
get-push : (ns : List ℕ) (n k x : ℕ) → slice_get (ns ++ n ∷ []) k ≡ Some x → (slice_get ns k ≡ Some x) ⊎ ((k ≡ length ns) × (x ≡ n))
get-push [] n zero x h = inr (refl, let same : n ≡ x = cc h in sym same)
get-push [] n (suc k) x h = absurd (cc h)
get-push (y ∷ ns) n zero x h = inl h
get-push (y ∷ ns) n (suc k) x h = elim (get-push ns n k x h) [
  | inl here ↦ inl here
  | inr last ↦ inr (ap suc last.0, last.1)
]

get-inside : (ns : List ℕ) (k x : ℕ) → slice_get ns k ≡ Some x → k < length ns
get-inside [] k x h = absurd (cc h)
get-inside (y ∷ ns) zero x h = omega arith
get-inside (y ∷ ns) (suc k) x h = let ih = get-inside ns k x h in omega (arith, ih)

length-push : (ns : List ℕ) (n : ℕ) → length (ns ++ n ∷ []) ≡ length ns + 1
length-push ns n = length-append ns (n ∷ [])

-- an action leaves the number unchanged
since-stays : (before : List ℕ) (n since : ℕ) → IsSince before n since → IsSince (before ++ n ∷ []) n since
since-stays before n since h = record {
  inside = let longer = length-push before n in omega (arith, h.inside, longer);
  stands = λ k x up at. elim (get-push before n k x at) [
    | inl here ↦ h.stands k x up here
    | inr last ↦ last.1
  ];
  brought = λ k x is at same. elim (get-push before n k x at) [
    | inl here ↦ h.brought k x is here same
    | inr last ↦ (let inside = h.inside in let place = last.0 in omega (arith, inside, is, place))
  ];
}

-- an action sets another number
since-changes : (before : List ℕ) (n m action : ℕ) → (n ≡ m → ⊥) → action ≡ length before + 1 → IsSince (before ++ n ∷ []) m action
since-changes before n m action other is = record {
  inside = let longer = length-push before n in omega (arith, is, longer);
  stands = λ k x up at. let here = get-inside (before ++ n ∷ []) k x at in let longer = length-push before n in absurd (omega (arith, here, longer, up, is));
  brought = λ k x is-k at same. elim (get-push before n k x at) [
    | inl here ↦ (let inside = get-inside before k x here in omega (arith, inside, is, is-k))
    | inr last ↦ other (sym last.1 ∙ same)
  ];
}

-- the mark of a number after an action
pub mark_is : (m : Mark) (value action : ℕ) (before : List ℕ) (n : ℕ) → IsMark before n m → action ≡ length before + 1 → IsMark (before ++ n ∷ []) value (mark_after m value action)
mark_is m value action before n h count = elim (cases_Bool (m.value == value)) [
  | inl same ↦ (let is = eqb-true m.value value same in rw same (is, subst (λ (x : ℕ). IsSince (before ++ n ∷ []) x m.since) (sym h.0 ∙ is) (since-stays before n m.since h.1)))
  | inr other ↦ rw other (refl, since-changes before n value action (λ q. let same = eq-eqb m.value value (h.0 ∙ q) in cc (sym same ∙ other)) count)
]

-- ---- all agents

first-since : (now : ℕ) → IsSince [] now 0
first-since now = record { inside = omega arith; stands = λ k x up at. absurd (cc at); brought = λ k x is at same. cc at }

first-of : (number : IdealAgent → ℕ) (configs : List Config) (a : ℕ) → ((config : Config) → number (first_node config).agent ≡ 1) → number_in number a (start configs).cluster ≡ 1
first-of number configs a first = ap (λ (o : Option IdealNode). number_or_one number o) (slice_get-map first_node configs a) ∙ by (slice_get configs a)
  where
    by : (o : Option Config) → number_or_one number (option_map first_node o) ≡ 1
    by None = refl
    by (Some config) = first config

first-events-clock : (config : Config) → events_clock (first_node config).agent ≡ 1
first-events-clock config = elim (cases_Bool config.keep_events) [ inl on ↦ rw on refl | inr off ↦ rw off refl ]

first-queries-clock : (config : Config) → queries_clock (first_node config).agent ≡ 1
first-queries-clock config = elim (cases_Bool config.keep_events) [ inl on ↦ rw on refl | inr off ↦ rw off refl ]

first-events-lowest : (config : Config) → events_min (first_node config).agent ≡ 1
first-events-lowest config = elim (cases_Bool config.keep_events) [ inl on ↦ rw on (omega arith) | inr off ↦ rw off refl ]

first-queries-lowest : (config : Config) → queries_min (first_node config).agent ≡ 1
first-queries-lowest config = elim (cases_Bool config.keep_events) [ inl on ↦ rw on (omega arith) | inr off ↦ rw off refl ]

-- the marks before any agent has done anything
pub hold-first : (configs : List Config) (marks : AllMarks) → ((a : ℕ) → numbers_of marks a ≡ first_numbers) → HoldMarks [] (start configs).cluster marks
hold-first configs marks first = λ a.
    subst (λ (ns : Numbers). AreNumbers a [] (start configs).cluster ns) (sym (first a)) (record {
      event_clock = (sym (first-of events_clock configs a first-events-clock), first-since (number_in events_clock a (start configs).cluster));
      query_clock = (sym (first-of queries_clock configs a first-queries-clock), first-since (number_in queries_clock a (start configs).cluster));
      event_minimum = (sym (first-of events_min configs a first-events-lowest), first-since (number_in events_min a (start configs).cluster));
      query_minimum = (sym (first-of queries_min configs a first-queries-lowest), first-since (number_in queries_min a (start configs).cluster));
    })

-- the mark of a number after one more action
mark-push : (number : IdealAgent → ℕ) (a : ℕ) (before : List Cluster) (c d : Cluster) (old : Mark) (now action : ℕ) → IsMarkOf number a before c old → number_in number a d ≡ now → action ≡ length before + 1
    → IsMarkOf number a (before ++ c ∷ []) d (mark_after old now action)
mark-push number a before c d old now action h is count =
    let many : action ≡ length (numbers_in number a before) + 1 = count ∙ ap (λ n. n + 1) (sym (length-map before (number_in number a))) in
    subst (λ (ns : List ℕ). IsMark ns (number_in number a d) (mark_after old now action)) (sym (map-append (number_in number a) before (c ∷ [])))
    (subst (λ (x : ℕ). IsMark (numbers_in number a before ++ number_in number a c ∷ []) x (mark_after old now action)) (sym is) (mark_is old now action (numbers_in number a before) (number_in number a c) h many))

numbers-push : (a : ℕ) (before : List Cluster) (c d : Cluster) (m : IdealNode) (old : Numbers) (action : ℕ) → AreNumbers a before c old → slice_get d.nodes a ≡ Some m → action ≡ length before + 1
    → AreNumbers a (before ++ c ∷ []) d (numbers_after old (view_of m.agent) action)
numbers-push a before c d m old action h at count =
    let own : (number : IdealAgent → ℕ) → number_in number a d ≡ number m.agent = λ number. ap (λ (o : Option IdealNode). number_or_one number o) at in
    record {
      event_clock = mark-push events_clock a before c d old.event_clock m.agent.events.clock action h.event_clock (own events_clock) count;
      query_clock = mark-push queries_clock a before c d old.query_clock m.agent.queries.clock action h.query_clock (own queries_clock) count;
      event_minimum = mark-push events_min a before c d old.event_minimum m.agent.events.minimum action h.event_minimum (own events_min) count;
      query_minimum = mark-push queries_min a before c d old.query_minimum m.agent.queries.minimum action h.query_minimum (own queries_min) count;
    }

-- the mark of a number of an agent that did nothing
mark-still : (number : IdealAgent → ℕ) (a : ℕ) (before : List Cluster) (c d : Cluster) (m : Mark) (action : ℕ) → IsMarkOf number a before c m → slice_get d.nodes a ≡ slice_get c.nodes a → action ≡ length before + 1 → IsMarkOf number a (before ++ c ∷ []) d m
mark-still number a before c d m action h same count =
    let still : mark_after m m.value action ≡ m = rw (eq-eqb m.value m.value refl) refl in
    subst (λ (k : Mark). IsMarkOf number a (before ++ c ∷ []) d k) still
    (mark-push number a before c d m m.value action h (ap (λ (o : Option IdealNode). number_or_one number o) same ∙ sym h.0) count)

pub numbers-still : (a : ℕ) (before : List Cluster) (c d : Cluster) (ns : Numbers) (action : ℕ) → AreNumbers a before c ns → slice_get d.nodes a ≡ slice_get c.nodes a → action ≡ length before + 1 → AreNumbers a (before ++ c ∷ []) d ns
numbers-still a before c d ns action h same count = record {
  event_clock = mark-still events_clock a before c d ns.event_clock action h.event_clock same count;
  query_clock = mark-still queries_clock a before c d ns.query_clock action h.query_clock same count;
  event_minimum = mark-still events_min a before c d ns.event_minimum action h.event_minimum same count;
  query_minimum = mark-still queries_min a before c d ns.query_minimum action h.query_minimum same count;
}

-- ---- what an action did

put-other : (ms : List IdealNode) (k j : ℕ) (m : IdealNode) → (k ≡ j → ⊥) → slice_get (slice_set ms k m) j ≡ slice_get ms j
put-other [] k j m n = refl
put-other (x ∷ ms) zero zero m n = absurd (n refl)
put-other (x ∷ ms) zero (suc j) m n = refl
put-other (x ∷ ms) (suc k) zero m n = refl
put-other (x ∷ ms) (suc k) (suc j) m n = put-other ms k j m (λ e. n (ap suc e))

-- an action leaves all other agents unchanged
others-stay : (c : Cluster) (actor : ℕ) (act : Act) (a : ℕ) → (actor ≡ a → ⊥) → slice_get (step c (actions.Of actor act)).cluster.nodes a ≡ slice_get c.nodes a
others-stay c actor act a other = by (slice_get c.nodes actor)
  where
    by : (m : Option IdealNode) → slice_get (on_agent c actor act m).cluster.nodes a ≡ slice_get c.nodes a
    by None = refl
    by (Some m) = put-other c.nodes actor a (with_handed (apply m c.sent act).done.handed (apply m c.sent act).node) other

-- the marks of an agent are updated from its state
pub looked : (old new : AllMarks) (actor : ℕ) (s : ConcreteState) (action : ℕ) (was following planned : Marks) → was.numbers ≡ numbers_of old actor → following.numbers ≡ numbers_after was.numbers s action → planned.numbers ≡ following.numbers
    → ((a : ℕ) → get nat_eq new.agents a ≡ if nat_eq actor a then Some planned else get nat_eq old.agents a) → IsLooked old new actor s action
looked old new actor s action was following planned found moved plan puts = record {
  own = ap (λ (o : Option Marks). marks_or_first o) (puts actor ∙ ap (λ (b : Bool). if b then Some planned else get nat_eq old.agents actor) (eq-eqb actor actor refl)) ∙ plan ∙ moved ∙ ap (λ (ns : Numbers). numbers_after ns s action) found;
  others = λ a other. ap (λ (o : Option Marks). marks_or_first o) (puts a ∙ ap (λ (b : Bool). if b then Some planned else get nat_eq old.agents a) other);
}

-- an agent acted
pub held_acted : (actor number : ℕ) (act : Act) (before : List Cluster) (c : Cluster) (w : WorldState) (s : ConcreteState) (old new : AllMarks) → HoldMarks before c old → IsViewed (step c (actions.Of actor act)).cluster w → agent_at w actor ≡ Some s → number ≡ length before + 1
    → IsLooked old new actor s number → HoldMarks (before ++ c ∷ []) (step c (actions.Of actor act)).cluster new
held_acted actor number act before c w s old new hold view at count inspect = λ a.
    let d : Cluster = (step c (actions.Of actor act)).cluster in
    let node = node-of d w actor s view at in
    elim (cases_Bool (nat_eq actor a)) [
      | inl mine ↦ subst (λ (x : ℕ). AreNumbers x (before ++ c ∷ []) d (numbers_of new x)) (eqb-true actor a mine)
          (subst (λ (ns : Numbers). AreNumbers actor (before ++ c ∷ []) d ns) (sym (inspect.own ∙ ap (λ (t : ConcreteState). numbers_after (numbers_of old actor) t number) node.2))
          (numbers-push actor before c d node.0 (numbers_of old actor) number (hold actor) node.1 count))
      | inr other ↦ subst (λ (ns : Numbers). AreNumbers a (before ++ c ∷ []) d ns) (sym (inspect.others a other))
          (numbers-still a before c d (numbers_of old a) number (hold a) (others-stay c actor act a (λ q. let same = eq-eqb actor a q in cc (sym same ∙ other))) count)
    ]

-- no agent acted, because there is no such agent
put-same : (ms : List IdealNode) (k : ℕ) (m x : IdealNode) → slice_get ms k ≡ Some x → slice_get (slice_set ms k m) k ≡ Some m
put-same [] k m x h = absurd (cc h)
put-same (y ∷ ms) zero m x h = refl
put-same (y ∷ ms) (suc k) m x h = put-same ms k m x h

nobody-there : (c : Cluster) (actor : ℕ) (act : Act) (o : Option IdealNode) → slice_get c.nodes actor ≡ o → slice_get (on_agent c actor act o).cluster.nodes actor ≡ None → (on_agent c actor act o).cluster ≡ c
nobody-there c actor act None is none = refl
nobody-there c actor act (Some m) is none =
    let there = put-same c.nodes actor (with_handed (apply m c.sent act).done.handed (apply m c.sent act).node) m is in
    absurd (cc (sym there ∙ none))

pub held_nobody : (actor number : ℕ) (act : Act) (before : List Cluster) (c : Cluster) (w : WorldState) (old : AllMarks) → HoldMarks before c old → IsViewed (step c (actions.Of actor act)).cluster w → agent_at w actor ≡ None → number ≡ length before + 1
    → HoldMarks (before ++ c ∷ []) (step c (actions.Of actor act)).cluster old
held_nobody actor number act before c w old hold view none count = λ a. numbers-still a before c d (numbers_of old a) number (hold a) (ap (λ (x : Cluster). slice_get x.nodes a) same) count
  where
    d : Cluster
    d = (step c (actions.Of actor act)).cluster

    gone : (o : Option IdealNode) → slice_get d.nodes actor ≡ o → slice_get d.nodes actor ≡ None
    gone None is = is
    gone (Some m) is = (let there : None ≡ Some (view_of m.agent) = sym none ∙ agent-is d w actor m view is in absurd (cc there))

    same : d ≡ c
    same = nobody-there c actor act (slice_get c.nodes actor) refl (gone (slice_get d.nodes actor) refl)

-- bytes are injected
pub held_injected : (bytes : List ℕ) (number : ℕ) (before : List Cluster) (c : Cluster) (old : AllMarks) → HoldMarks before c old → number ≡ length before + 1 → HoldMarks (before ++ c ∷ []) (step c (actions.Inject bytes)).cluster old
held_injected bytes number before c old hold count = λ a. numbers-still a before c (step c (actions.Inject bytes)).cluster (numbers_of old a) number (hold a) refl count

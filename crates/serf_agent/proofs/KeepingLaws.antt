-- Tracks that are kept over a restart: an opening leaves a sound track, which has everything that was entered before.
use Rattle.serf_agent.proofs.Names.{Bool, List, [], ap, arith, cond, false, filter, inl, inr, map, max, not, refl, subst, suc, sym, true, ℕ, ◌&&◌, ◌++◌, ◌+◌, ◌-◌, ◌<◌, ◌==◌, ◌∙◌, ◌∷◌, ◌≡◌, ◌≢◌, ◌≤◌, and_from, and_parts, eq-eqb, eqb-true, not-true, or_cases, true≢false, map-append, All-append, All-cons, All-contains, All-contains_itself, All-filter, All-head, All-map, All-nil, All-tail, All-weaker, Contains-append_left, Contains-append_right, filter-append, filter_passes, list_any_at, AllPairs-cons, AllPairs-filter, bytes_eq-Decides, All, AllPairs, Contains, bytes_eq, EventBody, same_id, IsRecalled, RecallLaws, Recalled, same_texts, TimedEntry, was_entered, Past, Track, IsHad, KeepingLaws, entries_in, history_without, in_life, opened_clock, taken_back, track_kept, IsTrackSound, of_life}
use Rattle.serf_agent.proofs.TrackLaws.{of_life-none}

-- ---- lists

-- what holds of each element that passes a test holds of everything that a filter keeps
All-passing : {A : Type 0} (test : A → Bool) (P : A → Type 0) (xs : List A) → All (λ x. test x ≡ true → P x) xs → All P (filter test xs)
All-passing {A} test P xs h = λ k d within. All-filter test (λ (x : A). test x ≡ true → P x) xs h k d within (filter_passes test xs k d within)

-- an element that passes a filter is among those that it keeps
pub All-kept : {A : Type 0} (test : A → Bool) (xs : List A) → All (λ x. test x ≡ true → Contains (filter test xs) x) xs
All-kept {A} test [] = All-nil (λ (x : A). test x ≡ true → Contains (filter test []) x)
All-kept {A} test (x ∷ xs) = step (test x) refl (All-kept test xs)
  where
    step : (b : Bool) → test x ≡ b → All (λ (y : A). test y ≡ true → Contains (filter test xs) y) xs → All (λ (y : A). test y ≡ true → Contains (cond b (x ∷ filter test xs) (filter test xs)) y) (x ∷ xs)
    step true is rest =
        All-cons (λ (y : A). test y ≡ true → Contains (x ∷ filter test xs) y) x xs (λ _. (0, omega arith, refl))
        (All-weaker (λ (y : A). test y ≡ true → Contains (filter test xs) y) (λ (y : A). test y ≡ true → Contains (x ∷ filter test xs) y) (λ y h passes. Contains-append_right (x ∷ []) (filter test xs) y (h passes)) xs rest)
    step false is rest = All-cons (λ (y : A). test y ≡ true → Contains (filter test xs) y) x xs (λ passes. absurd (true≢false (sym passes ∙ is))) rest

-- if an element is in a list, its image is in the mapped list
pub Contains-map : {A B : Type 0} (f : A → B) (xs : List A) (x : A) → Contains xs x → Contains (map f xs) (f x)
Contains-map {A} {B} f xs x there = All-contains (λ (y : A). Contains (map f xs) (f y)) xs x (all xs) there
  where
    all : (ys : List A) → All (λ (y : A). Contains (map f ys) (f y)) ys
    all [] = All-nil (λ (y : A). Contains (map f []) (f y))
    all (y ∷ ys) =
        All-cons (λ (z : A). Contains (map f (y ∷ ys)) (f z)) y ys (0, omega arith, refl)
        (All-weaker (λ (z : A). Contains (map f ys) (f z)) (λ (z : A). Contains (map f (y ∷ ys)) (f z)) (λ z h. Contains-append_right (f y ∷ []) (map f ys) (f z) h) ys (all ys))

pub Contains-entry : {K : Type 0} (ps : List (Past K)) (p : Past K) → Contains ps p → Contains (entries_in ps) p.entry
Contains-entry {K} ps p there = Contains-map (λ (q : Past K). q.entry) ps p there

-- what holds of the entries of a history holds of the history
pub of-entries : {K : Type 0} (P : TimedEntry K → Type 0) (ps : List (Past K)) → All P (entries_in ps) → All (λ p. P p.entry) ps
of-entries {K} P ps h = All-weaker (Contains ps) (λ (p : Past K). P p.entry) (λ p there. All-contains P (entries_in ps) p.entry h (Contains-entry ps p there)) ps (All-contains_itself ps)

-- relations between the elements of a list, and between those of two lists one after the other
pub pairs-head : {A : Type 0} (R : A → A → Type 0) (x : A) (xs : List A) → AllPairs R (x ∷ xs) → All (R x) xs
pairs-head R x xs h = λ k d within. h 0 (suc k) d (omega arith) (omega arith)

pub pairs-tail : {A : Type 0} (R : A → A → Type 0) (x : A) (xs : List A) → AllPairs R (x ∷ xs) → AllPairs R xs
pairs-tail R x xs h = λ i j d lt within. h (suc i) (suc j) d (omega arith) (omega arith)

pairs-append : {A : Type 0} (R : A → A → Type 0) (xs ys : List A) → AllPairs R xs → AllPairs R ys → All (λ x. All (R x) ys) xs → AllPairs R (xs ++ ys)
pairs-append {A} R [] ys front back across = back
pairs-append {A} R (x ∷ xs) ys front back across =
    AllPairs-cons R x (xs ++ ys) (All-append (R x) xs ys (pairs-head R x xs front) (All-head (λ (y : A). All (R y) ys) x xs across))
    (pairs-append R xs ys (pairs-tail R x xs front) back (All-tail (λ (y : A). All (R y) ys) x xs across))

-- ---- what is among entries, and what was entered

-- the test whether an entry is this one
abbrev is_this : {K : Type 0} → (K → K → Bool) → ℕ → K → TimedEntry K → Bool
is_this same t what e = (e.time == t) && same e.key what

-- an entry that is in a list was entered, by the test on this list
pub entered-contained : {K : Type 0} (same : K → K → Bool) → ((a : K) → same a a ≡ true) → (es : List (TimedEntry K)) (e : TimedEntry K) → Contains es e → was_entered same es e.time e.key ≡ true
entered-contained {K} same itself es e there =
    let this : is_this same e.time e.key e ≡ true = and_from (e.time == e.time) (same e.key e.key) (eq-eqb e.time e.time refl) (itself e.key) in
    list_any_at (is_this same e.time e.key) es there.0 e there.1 (subst (λ (x : TimedEntry K). is_this same e.time e.key x ≡ true) (sym there.2) this)

-- an entry that was entered, by the test on a list, is in this list, if the test recognizes equal keys
pub contained-entered : {K : Type 0} (same : K → K → Bool) → ((a b : K) → same a b ≡ true → a ≡ b) → (es : List (TimedEntry K)) (e : TimedEntry K) → was_entered same es e.time e.key ≡ true → Contains es e
contained-entered {K} same tells [] e h = absurd (cc h)
contained-entered {K} same tells (d ∷ es) e h = elim (or_cases (is_this same e.time e.key d) (was_entered same es e.time e.key) h) [
  | inl this ↦
      let parts = and_parts (d.time == e.time) (same d.key e.key) this in
      let time : d.time ≡ e.time = eqb-true d.time e.time parts.0 in
      let key : d.key ≡ e.key = tells d.key e.key parts.1 in
      let is : d ≡ e = (λ i. record { time = time i; key = key i }) in
      (0, omega arith, is)
  | inr later ↦ Contains-append_right (d ∷ []) es e (contained-entered same tells es e later)
]

-- ---- entries of a life

pub entries-in_life : {K : Type 0} (life : ℕ) (es : List (TimedEntry K)) → entries_in (in_life life es) ≡ es
entries-in_life life [] = refl
entries-in_life {K} life (e ∷ es) = ap (λ (l : List (TimedEntry K)). e ∷ l) (entries-in_life life es)

of_life-in_life : {K : Type 0} (life : ℕ) (es : List (TimedEntry K)) → of_life life (in_life life es) ≡ es
of_life-in_life life [] = refl
of_life-in_life {K} life (e ∷ es) =
    let own : (life == life) ≡ true = eq-eqb life life refl in
    rw own (ap (λ (l : List (TimedEntry K)). e ∷ l) (of_life-in_life life es))

distinct-in_life : {K : Type 0} (life : ℕ) (es : List (TimedEntry K)) → AllPairs (λ x y. x ≢ y) es → AllPairs (λ p q. p.entry ≢ q.entry) (in_life life es)
distinct-in_life {K} life [] apart = λ i j d lt within. absurd (omega arith)
distinct-in_life {K} life (e ∷ es) apart =
    AllPairs-cons (λ (p q : Past K). p.entry ≢ q.entry) (record { life = life; entry = e }) (in_life life es)
    (All-map (λ (q : Past K). e ≢ q.entry) (λ (x : TimedEntry K). record { life = life; entry = x }) es (pairs-head (λ (x y : TimedEntry K). x ≢ y) e es apart))
    (distinct-in_life life es (pairs-tail (λ (x y : TimedEntry K). x ≢ y) e es apart))

-- ---- an opening

-- if an entry that the text must have isn't restored, its time is no longer accepted
below_minimum : {K : Type 0} (same : K → K → Bool) (n last lowest : ℕ) (kept : List (TimedEntry K)) (back : Recalled K) → lowest ≤ back.minimum → All (IsRecalled same n (opened_clock last lowest) back) kept → (e : TimedEntry K)
    → IsHad n last lowest kept e → was_entered same back.entries e.time e.key ≡ false → e.time < max back.minimum (opened_clock last lowest - n)
below_minimum same n last lowest kept back up all e (inl low) out = omega arith
below_minimum same n last lowest kept back up all e (inr (inl old)) out = omega arith
below_minimum {K} same n last lowest kept back up all e (inr (inr there)) out = by (All-contains (IsRecalled same n (opened_clock last lowest) back) kept e all there)
  where
    by : IsRecalled same n (opened_clock last lowest) back e → e.time < max back.minimum (opened_clock last lowest - n)
    by (inl low) = omega arith
    by (inr (inl old)) = omega arith
    by (inr (inr held)) = absurd (true≢false (sym held ∙ out))

-- what is left of a history differs from each entry that was restored
apart-from_back : {K : Type 0} (same : K → K → Bool) → ((a : K) → same a a ≡ true) → (life : ℕ) (entries : List (TimedEntry K)) (history : List (Past K))
    → All (λ p. All (λ q. p.entry ≢ q.entry) (in_life life entries)) (history_without same entries history)
apart-from_back {K} same itself life entries history =
    All-weaker (λ (p : Past K). not (was_entered same entries p.entry.time p.entry.key) ≡ true) (λ (p : Past K). All (λ q. p.entry ≢ q.entry) (in_life life entries))
    (λ p passes. All-map (λ (q : Past K). p.entry ≢ q.entry) (λ (x : TimedEntry K). record { life = life; entry = x }) entries
    (All-weaker (Contains entries) (λ (x : TimedEntry K). p.entry ≢ x)
    (λ x there is. true≢false (sym (subst (λ (y : TimedEntry K). was_entered same entries y.time y.key ≡ true) (sym is) (entered-contained same itself entries x there)) ∙ not-true _ passes))
    entries (All-contains_itself entries)))
    (history_without same entries history) (filter_passes (λ (p : Past K). not (was_entered same entries p.entry.time p.entry.key)) history)

-- what holds of the history, and of what is kept, holds of the new history
all-kept : {K : Type 0} (laws : RecallLaws K) (same : K → K → Bool) (n k life last lowest : ℕ) (kept : List (TimedEntry K)) (track : Track K) (P : TimedEntry K → Type 0) → All (λ p. P p.entry) track.history → All P kept
    → All (λ p. P p.entry) (track_kept same n k life last lowest kept track).history
all-kept {K} laws same n k life last lowest kept track P old new =
    let back : Recalled K = taken_back same n k last lowest kept in
    All-append (λ (p : Past K). P p.entry) (history_without same back.entries track.history) (in_life life back.entries)
    (All-filter (λ (p : Past K). not (was_entered same back.entries p.entry.time p.entry.key)) (λ (p : Past K). P p.entry) track.history old)
    (All-map (λ (p : Past K). P p.entry) (λ (x : TimedEntry K). record { life = life; entry = x }) back.entries
    (All-weaker (Contains kept) P (λ e there. All-contains P kept e new there) back.entries (laws.only_kept same n k (opened_clock last lowest) (record { entries = []; minimum = lowest }) kept)))

restarts : {K : Type 0} (laws : RecallLaws K) (same : K → K → Bool) → ((a : K) → same a a ≡ true) → (n k life last lowest old_last : ℕ) (kept : List (TimedEntry K)) (track : Track K) → IsTrackSound track life old_last
    → All (λ p. p.entry.time ≤ last) track.history → All (λ e. e.time ≤ last) kept → All (λ p. IsHad n last lowest kept p.entry) track.history
    → IsTrackSound (track_kept same n k (life + 1) last lowest kept track) (life + 1) last
restarts {K} laws same itself n k life last lowest old_last kept track sound within below had =
    let start : Recalled K = record { entries = []; minimum = lowest } in
    let clock : ℕ = opened_clock last lowest in
    let back : Recalled K = taken_back same n k last lowest kept in
    let minimum : ℕ = max back.minimum (clock - n) in
    let test : Past K → Bool = λ p. not (was_entered same back.entries p.entry.time p.entry.key) in
    let up : lowest ≤ back.minimum = laws.minimum same n k clock start kept in
    let known : All (IsRecalled same n clock back) kept = laws.all_known same n k clock start kept itself in
    let inside : back.minimum ≤ clock = laws.bounded same n k clock start kept (omega arith) (All-weaker (λ (e : TimedEntry K). e.time ≤ last) (λ (e : TimedEntry K). e.time < clock) (λ e h. omega arith) kept below) in
    let old : List (Past K) = history_without same back.entries track.history in
    let new : List (Past K) = in_life (life + 1) back.entries in
    let noted : All (λ p. p.entry.time ≤ last) (old ++ new) = all-kept laws same n k (life + 1) last lowest kept track (λ (e : TimedEntry K). e.time ≤ last) within below in
    record {
      lives = All-append (λ (p : Past K). p.life ≤ life + 1) old new
          (All-filter test (λ (p : Past K). p.life ≤ life + 1) track.history (All-weaker (λ (p : Past K). p.life ≤ life) (λ (p : Past K). p.life ≤ life + 1) (λ p h. omega arith) track.history sound.lives))
          (All-map (λ (p : Past K). p.life ≤ life + 1) (λ (x : TimedEntry K). record { life = life + 1; entry = x }) back.entries (λ k d h. omega arith));
      below_clock = All-weaker (λ (p : Past K). p.entry.time ≤ last) (λ (p : Past K). p.entry.time < clock) (λ p h. omega arith) (old ++ new) noted;
      noted = noted;
      earlier = All-append (λ (p : Past K). p.life < life + 1 → p.entry.time < minimum) old new
          (All-passing test (λ (p : Past K). p.life < life + 1 → p.entry.time < minimum) track.history
          (All-weaker (λ (p : Past K). IsHad n last lowest kept p.entry) (λ (p : Past K). test p ≡ true → p.life < life + 1 → p.entry.time < minimum)
          (λ p h passes _. below_minimum same n last lowest kept back up known p.entry h (not-true _ passes)) track.history had))
          (All-map (λ (p : Past K). p.life < life + 1 → p.entry.time < minimum) (λ (x : TimedEntry K). record { life = life + 1; entry = x }) back.entries (λ k d h before. absurd (omega arith)));
      distinct = pairs-append (λ (p q : Past K). p.entry ≢ q.entry) old new
          (AllPairs-filter (λ (p q : Past K). p.entry ≢ q.entry) test track.history sound.distinct)
          (distinct-in_life (life + 1) back.entries (laws.distinct same n k clock start kept itself (λ i j d lt none. absurd (omega arith))))
          (apart-from_back same itself (life + 1) back.entries track.history);
      minimum = omega arith;
    }

view : {K : Type 0} (same : K → K → Bool) (n k life last lowest : ℕ) (kept : List (TimedEntry K)) (track : Track K) → All (λ p. p.life ≤ life) track.history
    → of_life (life + 1) (track_kept same n k (life + 1) last lowest kept track).history ≡ (taken_back same n k last lowest kept).entries
view {K} same n k life last lowest kept track lives =
    let entries : List (TimedEntry K) = (taken_back same n k last lowest kept).entries in
    let old : List (Past K) = history_without same entries track.history in
    let new : List (Past K) = in_life (life + 1) entries in
    let none : of_life (life + 1) old ≡ [] =
    of_life-none life old (All-filter (λ (p : Past K). not (was_entered same entries p.entry.time p.entry.key)) (λ (p : Past K). p.life ≤ life) track.history lives) in
    ap (map (λ (p : Past K). p.entry)) (filter-append (λ (p : Past K). p.life == life + 1) old new)
    ∙ map-append (λ (p : Past K). p.entry) (filter (λ (p : Past K). p.life == life + 1) old) (filter (λ (p : Past K). p.life == life + 1) new)
    ∙ ap (λ (l : List (TimedEntry K)). l ++ of_life (life + 1) new) none
    ∙ of_life-in_life (life + 1) entries

-- the entries of the new history: those that were left, and those that were restored
entries-kept : {K : Type 0} (same : K → K → Bool) (life : ℕ) (entries : List (TimedEntry K)) (history : List (Past K)) → entries_in (history_without same entries history ++ in_life life entries) ≡ entries_in (history_without same entries history) ++ entries
entries-kept {K} same life entries history =
    map-append (λ (p : Past K). p.entry) (history_without same entries history) (in_life life entries)
    ∙ ap (λ (l : List (TimedEntry K)). entries_in (history_without same entries history) ++ l) (entries-in_life life entries)

grown : {K : Type 0} (same : K → K → Bool) → ((a b : K) → same a b ≡ true → a ≡ b) → (n k life last lowest : ℕ) (kept : List (TimedEntry K)) (track : Track K)
    → All (Contains (entries_in (track_kept same n k life last lowest kept track).history)) (entries_in track.history)
grown {K} same tells n k life last lowest kept track =
    All-map (Contains (entries_in (left ++ in_life life entries))) (λ (p : Past K). p.entry) track.history
    (All-weaker (λ (p : Past K). test p ≡ true → Contains left p) (λ (p : Past K). Contains (entries_in (left ++ in_life life entries)) p.entry)
    (λ p h. subst (λ (l : List (TimedEntry K)). Contains l p.entry) (sym (entries-kept same life entries track.history)) (by p (was_entered same entries p.entry.time p.entry.key) refl h))
    track.history (All-kept test track.history))
  where
    entries : List (TimedEntry K)
    entries = (taken_back same n k last lowest kept).entries

    test : Past K → Bool
    test p = not (was_entered same entries p.entry.time p.entry.key)

    left : List (Past K)
    left = history_without same entries track.history

    by : (p : Past K) (b : Bool) → was_entered same entries p.entry.time p.entry.key ≡ b → (test p ≡ true → Contains left p) → Contains (entries_in left ++ entries) p.entry
    by p true is h = Contains-append_right (entries_in left) entries p.entry (contained-entered same tells entries p.entry is)
    by p false is h = Contains-append_left (entries_in left) entries p.entry (Contains-entry left p (h (ap not is)))

only_kept : {K : Type 0} (laws : RecallLaws K) (same : K → K → Bool) (n k life last lowest : ℕ) (kept : List (TimedEntry K)) (track : Track K)
    → All (Contains (entries_in track.history ++ kept)) (entries_in (track_kept same n k life last lowest kept track).history)
only_kept {K} laws same n k life last lowest kept track =
    All-map (Contains (entries_in track.history ++ kept)) (λ (p : Past K). p.entry) (track_kept same n k life last lowest kept track).history
    (all-kept laws same n k life last lowest kept track (Contains (entries_in track.history ++ kept))
    (All-weaker (Contains track.history) (λ (p : Past K). Contains (entries_in track.history ++ kept) p.entry) (λ p there. Contains-append_left (entries_in track.history) kept p.entry (Contains-entry track.history p there)) track.history (All-contains_itself track.history))
    (All-weaker (Contains kept) (Contains (entries_in track.history ++ kept)) (λ e there. Contains-append_right (entries_in track.history) kept e there) kept (All-contains_itself kept)))

-- ---- of events, and of queries

pub same_texts-itself : (a : EventBody) → same_texts a a ≡ true
same_texts-itself a = and_from _ _ ((bytes_eq-Decides a.name a.name).1 refl) ((bytes_eq-Decides a.payload a.payload).1 refl)

pub same_texts-tells : (a b : EventBody) → same_texts a b ≡ true → a ≡ b
same_texts-tells a b h =
    let parts = and_parts (bytes_eq a.name b.name) (bytes_eq a.payload b.payload) h in
    let name : a.name ≡ b.name = (bytes_eq-Decides a.name b.name).0 parts.0 in
    let payload : a.payload ≡ b.payload = (bytes_eq-Decides a.payload b.payload).0 parts.1 in
    (λ i. record { name = name i; payload = payload i })

keeping : {K : Type 0} (laws : RecallLaws K) (same : K → K → Bool) → ((a : K) → same a a ≡ true) → ((a b : K) → same a b ≡ true → a ≡ b) → KeepingLaws K same
keeping laws same itself tells = record { restarts = restarts laws same itself; view = view same; grown = grown same tells; only_kept = only_kept laws same }

pub keeping_events : RecallLaws EventBody → KeepingLaws EventBody same_texts
keeping_events laws = keeping laws same_texts same_texts-itself same_texts-tells

pub keeping_queries : RecallLaws ℕ → KeepingLaws ℕ same_id
keeping_queries laws = keeping laws same_id (λ a. eq-eqb a a refl) (λ a b h. eqb-true a b h)

-- What the maximum times mean for a firing, and what is in order.
use Rattle.serf_judge.proofs.Names.{Bool, Bor, IsTrue, List, None, Option, Some, [], ap, arith, false, get_or, inl, inr, length, max, nat_le, nat_lt, refl, suc, sym, take, true, true≢false, zero, ℕ, ◌&&◌, ◌+◌, ◌<◌, ◌||◌, ◌↔◌, ◌∙◌, ◌∷◌, ◌≡◌, ◌≤◌, ◌⊎◌, and_from, and_parts, cases_lt, le-leb, le-ltb, leb-true, lt-ltb, ltb-true, nat_tests, Any-from_list_any, list_any_at, IsNonDecreasingBy-from_all_adjacent, fails_before_first, passes_at_first, get_or_from_slice_get, slice_get-get_or, slice_get_cases, slice_get_within, bytes_eq-Decides, IsAllAdjacentAnswer, list_any, position_or_len, MatchOption, position, slice_get, bytes_eq, IsInOrder, IsLater, IsNotLater, IsCut, Records, is_handed_at, says, EventEntry}

pub largest-more : (time recorded lowest : ℕ) → nat_le lowest (max time recorded) ≡ (nat_le lowest recorded || nat_le lowest time)
largest-more time recorded lowest = grind (arith, nat_tests)

no-lt : (a b : ℕ) → (a < b → ⊥) → nat_lt a b ≡ false
no-lt a b h = by (cases_lt a b)
  where
    by : (a < b) ⊎ (b ≤ a) → nat_lt a b ≡ false
    by (inl lt) = absurd (h lt)
    by (inr le) = le-ltb a b le

-- among the items that are tested, the first ones are those that pass one more test
any-cut : {X : Type 0} (a b c : X → Bool) (xs : List X) (n : ℕ) → ((i : ℕ) (x : X) → slice_get xs i ≡ Some x → b x ≡ nat_lt i n)
    → list_any (λ x. a x && c x) (take n xs) ≡ list_any (λ x. a x && (b x && c x)) xs
any-cut a b c [] n cut = by n
  where
    by : (n : ℕ) → list_any (λ x. a x && c x) (take n []) ≡ false
    by zero = refl
    by (suc n) = refl
any-cut {X} a b c (x ∷ xs) zero cut =
    any-cut a b c xs zero (λ i y at. cut (suc i) y at ∙ grind (arith, nat_tests)) ∙ (λ k. none (a x) k || rest) ∙ (λ k. (a x && (sym (cut zero x refl) k && c x)) || rest)
  where
    rest : Bool
    rest = list_any (λ y. a y && (b y && c y)) xs

    none : (p : Bool) → false ≡ (p && false)
    none true = refl
    none false = refl
any-cut a b c (x ∷ xs) (suc n) cut = λ k. (a x && (sym (cut zero x refl ∙ lt-ltb zero (suc n) (omega arith)) k && c x)) || any-cut a b c xs n (λ i y at. cut (suc i) y at ∙ grind (arith, nat_tests)) k

-- what the table says about the node that fires, if the first events are those before the firing
pub records-say : (events : List EventEntry) (n : ℕ) (f : EventEntry) (key : Bor (List ℕ)) (recorded : Bor (List ℕ) → Option ℕ) → key.now ≡ f.node.items
    → Records bytes_eq (λ q. q.now) (λ e. e.node.items) (λ recorded t. nat_le t recorded) (λ e t. nat_le t e.time) (take n events) recorded → IsCut events n f.line
    → (time : ℕ) → says (λ recorded t. nat_le t recorded) (recorded key) time ≡ list_any (is_handed_at f time) events
records-say events n f key recorded is h cut time =
    h key time ∙ ap (λ node. list_any (λ e. bytes_eq node e.node.items && nat_le time e.time) (take n events)) is
    ∙ any-cut (λ e. bytes_eq f.node.items e.node.items) (λ e. nat_lt e.line f.line) (λ e. nat_le time e.time) events n (λ i e at. by i e at (cases_lt i n))
  where
    by : (i : ℕ) (e : EventEntry) → slice_get events i ≡ Some e → (i < n) ⊎ (n ≤ i) → nat_lt e.line f.line ≡ nat_lt i n
    by i e at (inl lt) = lt-ltb e.line f.line (cut.inside i e lt at) ∙ sym (lt-ltb i n lt)
    by i e at (inr le) = no-lt e.line f.line (λ lt. let low = cut.outside i e at lt in omega (arith, le, low)) ∙ sym (le-ltb i n le)

-- the index at which the events of the lines before this one end
pub cut-at : (events : List EventEntry) (n line : ℕ) → IsInOrder events → ((i : ℕ) (e : EventEntry) → i < n → slice_get events i ≡ Some e → e.line < line)
    → ((e : EventEntry) → slice_get events n ≡ Some e → line ≤ e.line) → IsCut events n line
cut-at events n line order inside next = record { inside = inside; outside = λ i e at lt. by i e at lt (cases_lt i n) (cases_lt n i) }
  where
    by : (i : ℕ) (e : EventEntry) → slice_get events i ≡ Some e → e.line < line → (i < n) ⊎ (n ≤ i) → (n < i) ⊎ (i ≤ n) → i < n
    by i e at lt (inl less) past = less
    by i e at lt (inr past) (inr le) = let same : i ≡ n = omega arith in let high = next e (ap (slice_get events) (sym same) ∙ at) in absurd (omega (arith, high, lt))
    by i e at lt (inr past) (inl more) =
        let size = slice_get_within events i e at in
        let there = slice_get-get_or events n e (omega (arith, more, size)) in
        let high = next (get_or events n e) there in
        let le = order n i (get_or events n e) e more there at in
        absurd (omega (arith, high, le, lt))

-- nothing that it was handed before is as late
pub is-later : (events : List EventEntry) (f : EventEntry) → list_any (is_handed_at f f.time) events ≡ false → IsLater events f
is-later events f none place b =
    let there = get_or_from_slice_get events place b.event b.event b.at in
    let node = (bytes_eq-Decides f.node.items b.event.node.items).1 (sym b.node) in
    let here : is_handed_at f f.time b.event ≡ true =
    and_from _ _ node (and_from _ _ (lt-ltb b.event.line f.line b.before) (le-leb f.time b.event.time b.not_later))
    in
    true≢false (sym (list_any_at (is_handed_at f f.time) events place b.event (slice_get_within events place b.event b.at) (ap (is_handed_at f f.time) there ∙ here)) ∙ none)

-- the first that is as late as this time
pub is-not-later : (events : List EventEntry) (f : EventEntry) (time : ℕ) → f.time ≤ time → list_any (is_handed_at f time) events ≡ true
    → MatchOption (position (is_handed_at f time) events) (IsLater events f) (IsNotLater events f)
is-not-later events f time le some = rw (lt-ltb k (length events) within) (record {
  event = event;
  at = slice_get-get_or events k found.1 within;
  node = sym ((bytes_eq-Decides f.node.items event.node.items).0 parts.0);
  before = ltb-true event.line f.line rest.0;
  not_later = let at : time ≤ event.time = leb-true time event.time rest.1 in omega (arith, at, le);
})
  where
    p : EventEntry → Bool
    p = is_handed_at f time

    k : ℕ
    k = position_or_len p events

    found : (j : ℕ) × (e : EventEntry) × (j < length events) × (get_or events j e ≡ e) × (p e ≡ true)
    found = Any-from_list_any p events some

    within : k < length events
    within = by (cases_lt k (length events))
      where
        by : (k < length events) ⊎ (length events ≤ k) → k < length events
        by (inl lt) = lt
        by (inr past) = absurd (true≢false (sym (ap p found.3 ∙ found.4) ∙ fails_before_first p events found.0 found.1 (let lt = found.2 in omega (arith, lt, past))))

    event : EventEntry
    event = get_or events k found.1

    parts : (bytes_eq f.node.items event.node.items ≡ true) × ((nat_lt event.line f.line && nat_le time event.time) ≡ true)
    parts = and_parts (bytes_eq f.node.items event.node.items) (nat_lt event.line f.line && nat_le time event.time) (passes_at_first p events found.1 within)

    rest : (nat_lt event.line f.line ≡ true) × (nat_le time event.time ≡ true)
    rest = and_parts (nat_lt event.line f.line) (nat_le time event.time) parts.1

-- each entry is not above the next one
pub in-order : (entries : List EventEntry) (r : Bool) → IsAllAdjacentAnswer (λ x y b. b ≡ nat_le x.line y.line) entries r → IsTrue r ↔ IsInOrder entries
in-order entries true h = (λ _ i j e f lt first second. ordered i j e f lt first second, λ _. refl)
  where
    ordered : IsInOrder entries
    ordered i j e f lt first second =
        let within = slice_get_within entries j f second in
        let le = IsNonDecreasingBy-from_all_adjacent (λ (x : EventEntry). x.line) entries (λ k d more. leb-true _ _ (sym (h k d more))) i j e (omega arith) within in
        let one = ap (λ (x : EventEntry). x.line) (get_or_from_slice_get entries i e e first) in
        let two = ap (λ (x : EventEntry). x.line) (get_or_from_slice_get entries j f e second) in
        omega (arith, le, one, two)
in-order entries false h = (λ t. absurd (cc t), λ order. absurd (by order (slice_get_cases entries h.0).1))
  where
    by : IsInOrder entries → ((x : EventEntry) × (h.0 < length entries) × (slice_get entries h.0 ≡ Some x) × (get_or entries h.0 x ≡ x)) ⊎ ((length entries ≤ h.0) × (slice_get entries h.0 ≡ None)) → ⊥
    by order (inl found) =
        let x = found.0 in
        let le = order h.0 (h.0 + 1) x (get_or entries (h.0 + 1) x) (omega arith) found.2 (slice_get-get_or entries (h.0 + 1) x h.1) in
        true≢false (sym (le-leb x.line (get_or entries (h.0 + 1) x).line le) ∙ ap (λ (y : EventEntry). nat_le y.line (get_or entries (h.0 + 1) x).line) (sym found.3) ∙ sym (h.2 x))
    by order (inr past) = let high = past.0 in let low = h.1 in omega (arith, high, low)

-- A log that has what agents were handed hands out nothing twice if and only if each agent was handed each thing once.
use Rattle.serf_judge.proofs.Names.{Bool, List, None, Option, Some, [], ap, arith, cond, false, get_or, length, map, refl, subst, suc, sym, true, zero, ℕ, ◌<◌, ◌↔◌, ◌∙◌, ◌∷◌, ◌≡◌, ◌≢◌, get_or-map, length-map, AllPairs-filter, slice_get-get_or, slice_get-map, slice_get_within, bytes_eq-Decides, AllPairs, MatchOption, filter, slice_get, bytes_eq, Identity, StandsFor, AreFirstTwo, HasNoTwo}
use Rattle.serf_judge.proofs.TwiceLaws.{has-key}

differ : {X : Type 0} (xs : List X) → HasNoTwo xs → AllPairs (λ x y. x ≢ y) xs
differ xs none i j d lt within same = none i j (record {
  before = lt;
  item = get_or xs i d;
  first_at = slice_get-get_or xs i d (omega arith);
  second_at = slice_get-get_or xs j d within ∙ ap (λ x. Some x) (sym same);
})

-- an item that passes a test, and one that appears twice, after the others were left out
record At {X : Type 0} (xs : List X) (x : X) : Type 0 where
  place : ℕ
  there : slice_get xs place ≡ Some x

following : {X : Type 0} (test : X → Bool) (z : X) (xs : List X) (x : X) → At (filter test xs) x → At (filter test (z ∷ xs)) x
following test z xs x h = by (test z)
  where
    by : (b : Bool) → At (cond b (z ∷ filter test xs) (filter test xs)) x
    by true = record { place = suc h.place; there = h.there }
    by false = h

passed : {X : Type 0} (test : X → Bool) (xs : List X) (i : ℕ) (x : X) → slice_get xs i ≡ Some x → test x ≡ true → At (filter test xs) x
passed test [] i x is t = absurd (cc is)
passed test (z ∷ zs) zero x is t =
    let same : z ≡ x = cc is in
    let here : test z ≡ true = ap test same ∙ t in
    subst (λ b. At (cond b (z ∷ filter test zs) (filter test zs)) x) (sym here) (record { place = 0; there = is })
passed test (z ∷ zs) (suc i) x is t = following test z zs x (passed test zs i x is t)

record Twice {X : Type 0} (xs : List X) (x : X) : Type 0 where
  earlier : ℕ
  later : ℕ
  before : earlier < later
  first_at : slice_get xs earlier ≡ Some x
  second_at : slice_get xs later ≡ Some x

twice-following : {X : Type 0} (test : X → Bool) (z : X) (xs : List X) (x : X) → Twice (filter test xs) x → Twice (filter test (z ∷ xs)) x
twice-following test z xs x h = by (test z)
  where
    by : (b : Bool) → Twice (cond b (z ∷ filter test xs) (filter test xs)) x
    by true = let before = h.before in record { earlier = suc h.earlier; later = suc h.later; before = omega arith; first_at = h.first_at; second_at = h.second_at }
    by false = h

passed-twice : {X : Type 0} (test : X → Bool) (xs : List X) (i j : ℕ) (x : X) → i < j → slice_get xs i ≡ Some x → slice_get xs j ≡ Some x → test x ≡ true → Twice (filter test xs) x
passed-twice test [] i j x lt first second t = absurd (cc first)
passed-twice test (z ∷ zs) i zero x lt first second t = absurd (omega arith)
passed-twice test (z ∷ zs) zero (suc j) x lt first second t =
    let same : z ≡ x = cc first in
    let here : test z ≡ true = ap test same ∙ t in
    let more : At (filter test zs) x = passed test zs j x second t in
    subst (λ b. Twice (cond b (z ∷ filter test zs) (filter test zs)) x) (sym here)
    (record { earlier = 0; later = suc more.place; before = omega arith; first_at = first; second_at = more.there })
passed-twice test (z ∷ zs) (suc i) (suc j) x lt first second t = twice-following test z zs x (passed-twice test zs i j x (omega arith) first second t)

-- if something is written twice, it was written for two equal things
written-twice : {X Y : Type 0} (f : X → Y) (xs : List X) (y : Y) → ((a b : X) → f a ≡ f b → a ≡ b) → Twice (map f xs) y → AllPairs (λ a b. a ≢ b) xs → ⊥
written-twice f xs y apart h all =
    let first = has-key f (slice_get xs h.earlier) y (sym (slice_get-map f xs h.earlier) ∙ h.first_at) in
    let second = has-key f (slice_get xs h.later) y (sym (slice_get-map f xs h.later) ∙ h.second_at) in
    let d = first.key in
    let before = h.before in
    let late : h.later < length xs = slice_get_within xs h.later second.key second.is in
    let one = sym (slice_get-get_or xs h.earlier d (omega arith)) ∙ first.is in
    let two = sym (slice_get-get_or xs h.later d late) ∙ second.is in
    let same = apart first.key second.key (first.seen ∙ sym second.seen) in
    all h.earlier h.later d h.before late (some-is _ _ one ∙ same ∙ sym (some-is _ _ two))
  where
    some-is : {Z : Type 0} (a b : Z) → Some a ≡ Some b → a ≡ b
    some-is a b e = cc e

once-from : {X : Type 0} (handed : ℕ → List X) (log : List Identity) → StandsFor handed log → HasNoTwo log → (a : ℕ) → AllPairs (λ x y. x ≢ y) (handed a)
once-from {X} handed log h none a i j d lt within same =
    let xs : List X = handed a in
    let f : X → Identity = h.written a in
    let own : AllPairs (λ x y. x ≢ y) (map f xs) =
    subst (AllPairs (λ x y. x ≢ y)) (h.own a) (AllPairs-filter (λ x y. x ≢ y) (λ (i : Identity). bytes_eq i.node (h.node a)) log (differ log none)) in
    own i j (f d) lt (omega (arith, within, length-map xs f)) (get_or-map f xs i d (f d) (omega arith) ∙ ap f same ∙ sym (get_or-map f xs j d (f d) within))

-- what a log that represents these things requires of how it writes them, and of the nodes that it names
abbrev pub IsApart : {X : Type 0} → (ℕ → X → Identity) → Type 0
IsApart {X} written = (a : ℕ) (x y : X) → written a x ≡ written a y → x ≡ y

abbrev pub IsNamed : (ℕ → List ℕ) → List Identity → Type 0
IsNamed node log = (k : ℕ) (i : Identity) → slice_get log k ≡ Some i → (a : ℕ) × (i.node ≡ node a)

none-from : {X : Type 0} (handed : ℕ → List X) (log : List Identity) (h : StandsFor handed log) → IsApart h.written → IsNamed h.node log
    → ((a : ℕ) → AllPairs (λ x y. x ≢ y) (handed a)) → HasNoTwo log
none-from handed log h apart named once i j t =
    let who = named j t.item t.second_at in
    let a = who.0 in
    let mine = (bytes_eq-Decides t.item.node (h.node a)).1 who.1 in
    let own = passed-twice (λ (i : Identity). bytes_eq i.node (h.node a)) log i j t.item t.before t.first_at t.second_at mine in
    written-twice (h.written a) (handed a) t.item (apart a) (subst (λ (xs : List Identity). Twice xs t.item) (h.own a) own) (once a)

pub none-once : {X : Type 0} {handed : ℕ → List X} (pair : Option (ℕ × ℕ)) (log : List Identity) (stands : StandsFor handed log) → IsApart stands.written → IsNamed stands.node log
    → MatchOption pair (HasNoTwo log) (λ places. AreFirstTwo log places.0 places.1)
    → (pair ≡ None) ↔ ((a : ℕ) → AllPairs (λ x y. x ≢ y) (handed a))
none-once {X} {handed} None log stands apart named h = (λ _. once-from handed log stands h, λ _. refl)
none-once {X} {handed} (Some places) log stands apart named h =
    (λ e. absurd (cc e), λ once. absurd (none-from handed log stands apart named once places.0 places.1 h.twice))

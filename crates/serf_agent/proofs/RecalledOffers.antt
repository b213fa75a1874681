-- Offers of what a text keeps.
use Rattle.serf_agent.proofs.Names.{List, [], arith, map, subst, sym, ℕ, ◌+◌, ◌<◌, ◌∷◌, ◌≡◌, ◌≤◌, All-cons, All-head, All-map, All-nil, All-tail, All-weaker, All, entries_offered, entry_offered, TimedEntry, Offer}

unmapped : {A B : Type 0} (P : B → Type 0) (f : A → B) (xs : List A) → All P (map f xs) → All (λ x. P (f x)) xs
unmapped {A} P f [] h = All-nil (λ (x : A). P (f x))
unmapped {A} P f (x ∷ xs) h = All-cons (λ (y : A). P (f y)) x xs (All-head P (f x) (map f xs) h) (unmapped P f xs (All-tail P (f x) (map f xs) h))

-- what is kept, if its entries are no later than a time
pub kept-below : {A K : Type 0} (entry : A → TimedEntry K) (Q : TimedEntry K → Type 0) (last : ℕ) (kept : List A) → All (λ e. (e.time ≤ last) × Q e) (map entry kept) → All (λ x. (entry x).time < last + 1) kept
kept-below {A} {K} entry Q last kept low =
    unmapped (λ (e : TimedEntry K). e.time < last + 1) entry kept
    (All-weaker (λ (e : TimedEntry K). (e.time ≤ last) × Q e) (λ (e : TimedEntry K). e.time < last + 1) (λ e h. let at : e.time ≤ last = h.0 in omega arith) (map entry kept) low)

-- offers of what is kept, if that is below a time
pub offers-below : {A K L : Type 0} (key : L → K) (entry : A → TimedEntry K) (last : ℕ) (offers : List (Offer L)) (kept : List A) → entries_offered key offers ≡ map entry kept → All (λ x. (entry x).time < last + 1) kept → All (λ offer. offer.time < last + 1) offers
offers-below {A} {K} key entry last offers kept is low =
    let early : All (λ (e : TimedEntry K). e.time < last + 1) (map entry kept) = All-map (λ (e : TimedEntry K). e.time < last + 1) entry kept low in
    unmapped (λ (e : TimedEntry K). e.time < last + 1) (entry_offered key) offers (subst (λ (l : List (TimedEntry K)). All (λ (e : TimedEntry K). e.time < last + 1) l) (sym is) early)

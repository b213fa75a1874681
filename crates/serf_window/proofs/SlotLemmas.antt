use Rattle.serf_window.proofs.Names.{Bool, List, [], arith, cond, false, inl, inr, length, max, refl, set, subst, sym, true, ℕ, ◌%◌, ◌++◌, ◌+◌, ◌/◌, ◌<◌, ◌==◌, ◌∙◌, ◌∷◌, ◌≡◌, ◌≢◌, ◌≤◌, ◌⊎◌, div-add-mod, mul-le-mul_left, cases_Bool, cases_eq, cases_lt, cases_order, eq-eqb, eqb-false, eqb-true, ne_eqb, common_steps, get_or-set_other, get_or-set_same, filter-append, fill_by_all, get_or-map-range_with_len, length-map-range_with_len, mod_below, list_any, TimedEntry, entries_of, largest_time, held_at, held_of, slot_after, slot_of, slots_of, was_entered}
use Rattle.std.proofs.Math.ListN.{length-set}

-- different times of one slot are at least n apart
pub time_apart : (n s t : ℕ) → s % n ≡ t % n → t < s → t + n ≤ s
time_apart n s t same later = elim (cases_lt (t / n) (s / n)) [
  | inl lt ↦ let le : t / n + 1 ≤ s / n = omega arith in omega (arith, div-add-mod s n, div-add-mod t n, mul-le-mul_left n le)
  | inr ge ↦ absurd (omega (arith, div-add-mod s n, div-add-mod t n, mul-le-mul_left n ge))
]

-- whether something has entered at a time, by the list of what is held at this time
pub was_entered-held : {K : Type 0} (same : K → K → Bool) (es : List (TimedEntry K)) (t : ℕ) (what : K) → was_entered same es t what ≡ list_any (λ k. same k what) (held_at t es)
was_entered-held same [] t what = refl
was_entered-held same (e ∷ es) t what = grind (arith, common_steps, was_entered-held same es t what)

-- what is held at a time belongs to one slot
pub held_at-entries_of : {K : Type 0} (n t : ℕ) (es : List (TimedEntry K)) → held_at t (entries_of n (t % n) es) ≡ held_at t es
held_at-entries_of n t [] = refl
held_at-entries_of n t (e ∷ es) = grind (arith, common_steps, held_at-entries_of n t es)

-- nothing is held above the largest time
pub held_at-above : {K : Type 0} (t : ℕ) (es : List (TimedEntry K)) → largest_time es < t → held_at t es ≡ []
held_at-above t [] h = refl
held_at-above t (e ∷ es) h = let ne : (e.time == t) ≡ false = ne_eqb _ _ (λ q. omega arith) in let ih : held_at t es ≡ [] = held_at-above t es (omega arith) in grind (arith, common_steps)

-- the largest time of a slot is one of its times, or 0
pub largest_time-slot : {K : Type 0} (n i : ℕ) (es : List (TimedEntry K)) → (largest_time (entries_of n i es) ≡ 0) ⊎ (largest_time (entries_of n i es) % n ≡ i)
largest_time-slot n i [] = inl refl
largest_time-slot n i (e ∷ es) = elim (cases_Bool (e.time % n == i)) [
  | inl here ↦ rw here (elim (cases_lt (largest_time (entries_of n i es)) e.time) [
    | inl lt ↦ let top : max e.time (largest_time (entries_of n i es)) ≡ e.time = omega arith in rw top (inr (eqb-true _ _ here))
    | inr ge ↦ let top : max e.time (largest_time (entries_of n i es)) ≡ largest_time (entries_of n i es) = omega arith in rw top (largest_time-slot n i es)
  ])
  | inr there ↦ rw there (largest_time-slot n i es)
]

-- the largest time after one more entry
pub largest_time-append : {K : Type 0} (es : List (TimedEntry K)) (e : TimedEntry K) → largest_time (es ++ e ∷ []) ≡ max (largest_time es) e.time
largest_time-append [] e = omega arith
largest_time-append (d ∷ es) e = let ih : largest_time (es ++ e ∷ []) ≡ max (largest_time es) e.time = largest_time-append es e in omega arith

-- what is held at a time after one more entry
pub held_at-append : {K : Type 0} (t : ℕ) (es : List (TimedEntry K)) (e : TimedEntry K) → held_at t (es ++ e ∷ []) ≡ held_at t es ++ cond (e.time == t) (e.key ∷ []) []
held_at-append t [] e = grind (arith, common_steps)
held_at-append t (d ∷ es) e = grind (arith, common_steps, held_at-append t es e)

-- if the slot's time is below the clock and the time isn't too old, the slot holds exactly what has entered at this
-- time
pub held_of-slot : {K : Type 0} (n clock t : ℕ) (es : List (TimedEntry K)) → (slot_of n es (t % n)).time < clock → clock ≤ t + n → held_of (slot_of n es (t % n)) t ≡ held_at t es
held_of-slot {K} n clock t es below young =
    elim (cases_order t (largest_time (entries_of n (t % n) es))) [
      | inl now ↦ rw (← now, eq-eqb t t refl) (held_at-entries_of n t es)
      | inr other ↦ elim other [
        | inl before ↦ absurd (elim (largest_time-slot n (t % n) es) [
          | inl none ↦ omega arith
          | inr one ↦ let apart = time_apart n (largest_time (entries_of n (t % n) es)) t one before in omega arith
        ])
        | inr after ↦ let none : (largest_time (entries_of n (t % n) es) == t) ≡ false = ne_eqb _ _ (λ q. omega arith) in
            rw none (sym (sym (held_at-entries_of n t es) ∙ held_at-above t (entries_of n (t % n) es) after))
      ]
    ]

-- the slot of a time that isn't too old holds no later time
pub slot-not_later : {K : Type 0} (n clock t : ℕ) (es : List (TimedEntry K)) → (slot_of n es (t % n)).time < clock → clock ≤ t + n → (slot_of n es (t % n)).time ≤ t
slot-not_later {K} n clock t es below young = elim (cases_lt t (largest_time (entries_of n (t % n) es))) [
  | inl before ↦ absurd (elim (largest_time-slot n (t % n) es) [
    | inl none ↦ omega arith
    | inr one ↦ let apart = time_apart n (largest_time (entries_of n (t % n) es)) t one before in omega arith
  ])
  | inr le ↦ le
]

pub entries_of-append : {K : Type 0} (n i : ℕ) (es : List (TimedEntry K)) (e : TimedEntry K) → entries_of n i (es ++ e ∷ []) ≡ entries_of n i es ++ cond (e.time % n == i) (e ∷ []) []
entries_of-append n i es e = filter-append (λ d. d.time % n == i) es (e ∷ [])

-- an entry leaves the other slots as they are
pub slot_of-other : {K : Type 0} (n i : ℕ) (es : List (TimedEntry K)) (e : TimedEntry K) → i ≢ e.time % n → slot_of n (es ++ e ∷ []) i ≡ slot_of n es i
slot_of-other n i es e other =
    let no : (e.time % n == i) ≡ false = ne_eqb _ _ (λ q. other (sym q)) in
    let same : entries_of n i (es ++ e ∷ []) ≡ entries_of n i es = entries_of-append n i es e ∙ rw no (grind (arith, common_steps)) in
    rw same refl

-- the slot into which an entry goes
pub slot_of-append : {K : Type 0} (n : ℕ) (es : List (TimedEntry K)) (e : TimedEntry K) → (slot_of n es (e.time % n)).time ≤ e.time → slot_of n (es ++ e ∷ []) (e.time % n) ≡ slot_after (slot_of n es (e.time % n)) e
slot_of-append {K} n es e not_later =
    let yes : (e.time % n == e.time % n) ≡ true = eq-eqb _ _ refl in
    let mine : entries_of n (e.time % n) (es ++ e ∷ []) ≡ entries_of n (e.time % n) es ++ e ∷ [] = entries_of-append n (e.time % n) es e ∙ rw yes refl in
    let top : largest_time (entries_of n (e.time % n) es ++ e ∷ []) ≡ e.time = largest_time-append (entries_of n (e.time % n) es) e ∙ omega arith in
    let own : (e.time == e.time) ≡ true = eq-eqb _ _ refl in
    rw (mine, top, held_at-append e.time (entries_of n (e.time % n) es) e, own) (elim (cases_Bool (largest_time (entries_of n (e.time % n) es) == e.time)) [
      | inl same ↦ let same_time : largest_time (entries_of n (e.time % n) es) ≡ e.time = eqb-true _ _ same in rw (same_time, own) refl
      | inr later ↦ let none : held_at e.time (entries_of n (e.time % n) es) ≡ [] = held_at-above e.time _ (let ne : largest_time (entries_of n (e.time % n) es) ≢ e.time = eqb-false _ _ later in omega arith) in rw (later, none) refl
    ])

-- the slots after one more entry at the end of the list
pub slots_of-append : {K : Type 0} (n : ℕ) (es : List (TimedEntry K)) (e : TimedEntry K) → 0 < n → (slot_of n es (e.time % n)).time ≤ e.time
    → set (slots_of n es) (e.time % n) (slot_after (slot_of n es (e.time % n)) e) ≡ slots_of n (es ++ e ∷ [])
slots_of-append {K} n es e pos not_later =
    let size : length (slots_of n es) ≡ n = length-map-range_with_len (slot_of n es) 0 n in
    let within : e.time % n < length (slots_of n es) = subst (λ (m : ℕ). e.time % n < m) (sym size) (mod_below e.time n pos) in
    fill_by_all (slot_of n (es ++ e ∷ [])) _ n (slot_of n es 0) (length-set (slots_of n es) _ _ ∙ size) (λ k h. elim (cases_eq k (e.time % n)) [
      | inl own ↦ rw own (get_or-set_same (slots_of n es) (e.time % n) _ _ within ∙ sym (slot_of-append n es e not_later))
      | inr other ↦ get_or-set_other (slots_of n es) (e.time % n) k _ _ other ∙ get_or-map-range_with_len (slot_of n es) 0 n k k _ h (omega arith) ∙ sym (slot_of-other n k es e other)
    ])

-- The laws about the slots of any entries.
use Rattle.serf_window.proofs.Names.{List, [], ap, arith, false, filter, get_or, inl, inr, length, refl, subst, sym, ℕ, ◌%◌, ◌+◌, ◌<◌, ◌==◌, ◌∙◌, ◌∷◌, ◌≡◌, ◌≤◌, ◌⊎◌, cases_Bool, cases_lt, eqb-true, ne_eqb, All-contains_itself, All-filter, All-head, All-map, All-nil, All-tail, filter_passes, length-map-range_with_len, sum_by-le, All, Contains, range_with_len, SlotLaws, SlotOf, TimedEntry, TimesBelow, count_in, entries_of, largest_time, held_at, held_of, slot_for, slot_of, slots_of, time_in}
use Rattle.serf_window.proofs.SlotLemmas.{held_of-slot}
use Rattle.serf_window.proofs.WindowLemmas.{slot_for-below, slot_for-slots_of}

pub length-slots_of : {K : Type 0} (n : ℕ) (es : List (TimedEntry K)) → length (slots_of n es) ≡ n
length-slots_of n es = length-map-range_with_len (slot_of n es) 0 n

-- the slot of a time holds everything that has entered at this time, or the time is too old
pub held_or_too_old : {K : Type 0} (n clock t : ℕ) (es : List (TimedEntry K)) → 0 < n → TimesBelow clock (slots_of n es) → (held_of (slot_for (slots_of n es) t) t ≡ held_at t es) ⊎ (t + n < clock)
held_or_too_old {K} n clock t es pos below = elim (cases_lt (t + n) clock) [
  | inl old ↦ inr old
  | inr young ↦
      let size : n ≡ length (slots_of n es) = sym (length-slots_of n es) in
      let mine = slot_for-slots_of n t (slots_of n es) es size pos refl in
      let bound : (slot_of n es (t % n)).time < clock = subst (λ (s : SlotOf K). s.time < clock) mine (slot_for-below clock t (slots_of n es) (omega arith) below) in
      inl (ap (λ s. held_of s t) mine ∙ held_of-slot n clock t es bound young)
]

-- what is true of all entries is true of those held at a time
pub held_at-each : {K : Type 0} (P : TimedEntry K → Type 0) (t : ℕ) (es : List (TimedEntry K)) → All P es → All (λ what. P (record { time = t; key = what })) (held_at t es)
held_at-each {K} P t es each = All-map (λ what. P (record { time = t; key = what })) (λ (e : TimedEntry K). e.key) (filter (λ e. e.time == t) es) (λ k d within.
    subst (λ (u : ℕ). P (record { time = u; key = (get_or (filter (λ e. e.time == t) es) k d).key })) (eqb-true _ _ (filter_passes (λ (e : TimedEntry K). e.time == t) es k d within)) (All-filter (λ (e : TimedEntry K). e.time == t) P es each k d within))

-- what is true of all entries is true of those that the slots hold
pub slots_of-each : {K : Type 0} (P : TimedEntry K → Type 0) (n : ℕ) (es : List (TimedEntry K)) → All P es → All (λ s. All (λ what. P (record { time = s.time; key = what })) s.held) (slots_of n es)
slots_of-each {K} P n es each = All-map (λ (s : SlotOf K). All (λ what. P (record { time = s.time; key = what })) s.held) (slot_of n es) (range_with_len 0 n)
    (λ i d within. held_at-each P (largest_time (entries_of n (get_or (range_with_len 0 n) i d) es)) (entries_of n (get_or (range_with_len 0 n) i d) es) (All-filter (λ (e : TimedEntry K). e.time % n == get_or (range_with_len 0 n) i d) P es each))

pub largest_time-below : {K : Type 0} (clock : ℕ) (es : List (TimedEntry K)) → 0 < clock → All (λ e. e.time < clock) es → largest_time es < clock
largest_time-below clock [] pos each = pos
largest_time-below {K} clock (e ∷ es) pos each =
    let head : e.time < clock = All-head (λ (d : TimedEntry K). d.time < clock) e es each in
    let rest : largest_time es < clock = largest_time-below clock es pos (All-tail (λ (d : TimedEntry K). d.time < clock) e es each) in
    omega arith

-- if the times of all entries are below the clock, so are the times of the slots
pub slots_of-below : {K : Type 0} (n clock : ℕ) (es : List (TimedEntry K)) → 0 < clock → All (λ e. e.time < clock) es → TimesBelow clock (slots_of n es)
slots_of-below {K} n clock es pos each = All-map (λ (s : SlotOf K). s.time < clock) (slot_of n es) (range_with_len 0 n)
    (λ i d within. largest_time-below clock (entries_of n (get_or (range_with_len 0 n) i d) es) pos (All-filter (λ (e : TimedEntry K). e.time % n == get_or (range_with_len 0 n) i d) (λ (e : TimedEntry K). e.time < clock) es each))

-- the slots of an empty list of entries are below every clock above 0
pub starts_below : {K : Type 0} (n clock : ℕ) → 0 < clock → TimesBelow {K = K} clock (slots_of n [])
starts_below {K} n clock pos = slots_of-below n clock [] pos (All-nil (λ (e : TimedEntry K). e.time < clock))

-- the slot of a time that isn't below the clock holds no later time, and has a place for one more entry
pub fresh_may_enter : {K : Type 0} (k clock t : ℕ) (slots : List (SlotOf K)) → 0 < k → TimesBelow clock slots → clock ≤ t → (time_in slots t ≤ t) × (count_in slots t < k)
fresh_may_enter {K} k clock t [] some below late = elim (cases_Bool (0 == t)) [
  | inl zero ↦ (omega arith, rw zero some)
  | inr other ↦ (omega arith, rw other some)
]
fresh_may_enter {K} k clock t (s ∷ ss) some below late =
    let bound : (slot_for (s ∷ ss) t).time < clock = slot_for-below clock t (s ∷ ss) (omega arith) below in
    let other : ((slot_for (s ∷ ss) t).time == t) ≡ false = ne_eqb _ _ (λ q. omega arith) in
    (omega arith, rw other some)

pub slot_laws : (K : Type 0) → SlotLaws K
slot_laws K = record {
  size = length-slots_of;
  held_or_too_old = held_or_too_old;
  only_entered = λ n es. slots_of-each (Contains es) n es (All-contains_itself es);
  below = slots_of-below;
  fresh = fresh_may_enter;
  together = λ k slots each. sum_by-le (λ (s : SlotOf K). length s.held) k slots each;
}

use Rattle.serf_window.proofs.Names.{Bool, List, [], ap, arith, cond, false, get_or, inl, inr, length, length-append, map, nat_le, refl, set, subst, sum_by, sym, true, ℕ, ◌%◌, ◌*◌, ◌++◌, ◌+◌, ◌<◌, ◌∙◌, ◌∷◌, ◌≡◌, ◌≢◌, ◌≤◌, mul-le-mul_left, cases_eq, cases_order, eq-eqb, le-ltb, lt-leb, lt-ltb, ne_eqb, nat_tests, get_or-map, get_or-set_other, get_or-set_same, length-map, length-set, map-set, All-map, All-set, fold-map, get_or-map-range_with_len, sum_by-le, mod_below, list_any, range_with_len, slot_verdict, EachAtMost, IsWindow, SlotOf, TimedEntry, TimesBelow, count_at, count_in, empty_slot, held_at, held_count, held_of, room_for, slot_after, slot_for, slot_of, slots_after, slots_of, time_in, verdict_of, was_entered, New, Seen, TimeFull}
use Rattle.serf_window.proofs.SlotLemmas.{held_of-slot, slot-not_later, slots_of-append, was_entered-held}

-- What a window's slots say, on plain lists of slots

-- the slot of a time, if the slots are those of entries
pub slot_for-slots_of : {K : Type 0} (n t : ℕ) (slots : List (SlotOf K)) (es : List (TimedEntry K)) → n ≡ length slots → 0 < n → slots ≡ slots_of n es → slot_for slots t ≡ slot_of n es (t % n)
slot_for-slots_of {K} n t slots es size pos is =
    ap (λ m. get_or slots (t % m) empty_slot) (sym size) ∙ ap (λ xs. get_or xs (t % n) empty_slot) is ∙ get_or-map-range_with_len (slot_of n es) 0 n (t % n) (t % n) empty_slot (mod_below t n pos) (omega arith)

-- the slot of a time is below every bound that all slots are below
pub slot_for-below : {K : Type 0} (clock t : ℕ) (slots : List (SlotOf K)) → 0 < length slots → TimesBelow clock slots → (slot_for slots t).time < clock
slot_for-below clock t slots pos below = below (t % length slots) empty_slot (mod_below t (length slots) pos)

-- the verdict of one slot, by what it holds of the time
pub slot_verdict-held : {K : Type 0} (same : K → K → Bool) (k t : ℕ) (what : K) (slot : SlotOf K) → 0 < k → slot.time ≤ t
    → slot_verdict same k slot t what ≡ cond (list_any (λ h. same h what) (held_of slot t)) Seen (cond (nat_le k (length (held_of slot t))) TimeFull New)
slot_verdict-held same k t what slot some not_later = elim (cases_order t slot.time) [
  | inl now ↦ rw (le-ltb t slot.time (omega arith), le-ltb slot.time t (omega arith), eq-eqb slot.time t (sym now)) refl
  | inr other ↦ elim other [
    | inl before ↦ absurd (omega arith)
    | inr after ↦ rw (le-ltb t slot.time (omega arith), lt-ltb slot.time t after, ne_eqb slot.time t (λ q. omega arith), lt-leb k 0 some) refl
  ]
]

not_full : (seen full : Bool) → cond seen Seen (cond full TimeFull New) ≡ New → full ≡ false
not_full true full is = absurd cc
not_full false true is = absurd cc
not_full false false is = refl

-- an entry with the verdict New may enter its slot
pub slot_verdict-new : {K : Type 0} (same : K → K → Bool) (k t : ℕ) (what : K) (slot : SlotOf K) → 0 < k → slot_verdict same k slot t what ≡ New → (slot.time ≤ t) × (length (held_of slot t) < k)
slot_verdict-new same k t what slot some new = elim (cases_order t slot.time) [
  | inl now ↦
      let tests = rw (le-ltb t slot.time (omega arith), le-ltb slot.time t (omega arith)) at new in
      let free : nat_le k (length slot.held) ≡ false = not_full (list_any (λ h. same h what) slot.held) (nat_le k (length slot.held)) tests in
      (omega arith, rw (eq-eqb slot.time t (sym now)) (grind (arith, nat_tests, free)))
  | inr other ↦ elim other [
    | inl before ↦ absurd (let old = rw (lt-ltb t slot.time before) at new in cc)
    | inr after ↦ (omega arith, rw (ne_eqb slot.time t (λ q. omega arith)) some)
  ]
]

-- a verdict that is neither BelowMinimum nor TooOld
pub verdict_of-open : {K : Type 0} (same : K → K → Bool) (n k : ℕ) (es : List (TimedEntry K)) (clock minimum t : ℕ) (what : K) → minimum ≤ t → clock ≤ t + n
    → verdict_of same n k es clock minimum t what ≡ cond (was_entered same es t what) Seen (cond (nat_le k (count_at es t)) TimeFull New)
verdict_of-open same n k es clock minimum t what low young = rw (le-ltb t minimum low, le-ltb (t + n) clock young) refl

-- the slot's verdict is the one that follows from all entries
pub slot_verdict-entered : {K : Type 0} (same : K → K → Bool) (n k clock minimum t : ℕ) (what : K) (slots : List (SlotOf K)) (es : List (TimedEntry K)) → n ≡ length slots → 0 < n → 0 < k → slots ≡ slots_of n es
    → TimesBelow clock slots → minimum ≤ t → clock ≤ t + n → slot_verdict same k (slot_for slots t) t what ≡ verdict_of same n k es clock minimum t what
slot_verdict-entered {K} same n k clock minimum t what slots es size pos some is below low young =
    let mine = slot_for-slots_of n t slots es size pos is in
    let low_slot : (slot_for slots t).time < clock = slot_for-below clock t slots (omega arith) below in
    let bound : (slot_of n es (t % n)).time < clock = subst (λ (s : SlotOf K). s.time < clock) mine low_slot in
    let not_later : (slot_for slots t).time ≤ t = subst (λ (s : SlotOf K). s.time ≤ t) (sym mine) (slot-not_later n clock t es bound young) in
    let held : held_of (slot_for slots t) t ≡ held_at t es = ap (λ s. held_of s t) mine ∙ held_of-slot n clock t es bound young in
    slot_verdict-held same k t what (slot_for slots t) some not_later
    ∙ ap (λ hs. cond (list_any (λ h. same h what) hs) Seen (cond (nat_le k (length hs)) TimeFull New)) held
    ∙ ap (λ b. cond b Seen (cond (nat_le k (length (held_at t es))) TimeFull New)) (sym (was_entered-held same es t what))
    ∙ sym (verdict_of-open same n k es clock minimum t what low young)

-- the slots after an entry are those of the entries with this one at the end
pub slots_after-entered : {K : Type 0} (n : ℕ) (slots : List (SlotOf K)) (e : TimedEntry K) (es : List (TimedEntry K)) → n ≡ length slots → 0 < n → slots ≡ slots_of n es → time_in slots e.time ≤ e.time → slots_after slots e ≡ slots_of n (es ++ e ∷ [])
slots_after-entered {K} n slots e es size pos is not_later =
    let mine = slot_for-slots_of n e.time slots es size pos is in
    let bound : (slot_of n es (e.time % n)).time ≤ e.time = subst (λ (s : SlotOf K). s.time ≤ e.time) mine not_later in
    ap (λ m. set slots (e.time % m) (slot_after (slot_for slots e.time) e)) (sym size) ∙ ap (λ xs. set xs (e.time % n) (slot_after (slot_for slots e.time) e)) is ∙ ap (λ s. set (slots_of n es) (e.time % n) (slot_after s e)) mine ∙ slots_of-append n es e pos bound

-- after an entry whose time is below the clock, all slots are still below it
pub TimesBelow-after : {K : Type 0} (clock : ℕ) (slots : List (SlotOf K)) (e : TimedEntry K) → e.time < clock → TimesBelow clock slots → TimesBelow clock (slots_after slots e)
TimesBelow-after {K} clock slots e low below = All-set (λ (s : SlotOf K). s.time < clock) slots (e.time % length slots) (slot_after (slot_for slots e.time) e) low below

-- after an entry for which there is a place, each slot still holds at most k entries
pub EachAtMost-after : {K : Type 0} (k : ℕ) (slots : List (SlotOf K)) (e : TimedEntry K) → count_in slots e.time < k → EachAtMost k slots → EachAtMost k (slots_after slots e)
EachAtMost-after {K} k slots e free each = All-set (λ (s : SlotOf K). length s.held ≤ k) slots (e.time % length slots) (slot_after (slot_for slots e.time) e) (omega (arith, length-append (held_of (slot_for slots e.time) e.time) (e.key ∷ []))) each

-- the slots of an empty list of entries hold nothing
pub EachAtMost-none : {K : Type 0} (n k : ℕ) → EachAtMost {K = K} k (slots_of n [])
EachAtMost-none {K} n k = All-map (λ (s : SlotOf K). length s.held ≤ k) (slot_of n []) (range_with_len 0 n) (λ i d within. omega arith)

-- Slots in memory, and how contracts see them

-- the slot of a time
pub slot_for-map : {S K : Type 0} (show : S → SlotOf K) (items : List S) (i t : ℕ) (slot : S) → i < length items → i ≡ t % length items → slot ≡ get_or items i slot → slot_for (map show items) t ≡ show slot
slot_for-map show items i t slot within place at =
    ap (λ n. get_or (map show items) (t % n) empty_slot) (length-map items show) ∙ ap (λ k. get_or (map show items) k empty_slot) (sym place) ∙ get_or-map show items i slot empty_slot within ∙ sym (ap show at)

-- the slots after one of them was written
pub slots_after-map : {S K : Type 0} (show : S → SlotOf K) (items : List S) (i : ℕ) (e : TimedEntry K) (slot after : S) → i < length items → i ≡ e.time % length items → slot ≡ get_or items i slot → show after ≡ slot_after (show slot) e
    → map show (set items i after) ≡ slots_after (map show items) e
slots_after-map show items i e slot after within place at becomes =
    map-set show items i after ∙ ap (set (map show items) i) (becomes ∙ ap (λ s. slot_after s e) (sym (slot_for-map show items i e.time slot within place at)))
    ∙ ap (λ k. set (map show items) k (slot_after (slot_for (map show items) e.time) e)) (place ∙ ap (λ n. e.time % n) (sym (length-map items show)))

-- the room for a time, after the room of slot i has changed
pub room_for-set : {S K : Type 0} (show : S → SlotOf K) (room : S → ℕ) (items : List S) (k i t : ℕ) (after : S) → i < length items → 0 < room after
    → 0 < room_for (record { slots = map show items; rooms = map room items; per_time = k }) t → 0 < room_for (record { slots = map show (set items i after); rooms = map room (set items i after); per_time = k }) t
room_for-set show room items k i t after within some before =
    let size : length (map show (set items i after)) ≡ length (map show items) = length-map (set items i after) show ∙ length-set items i after ∙ sym (length-map items show) in
    let inside : i < length (map room items) = subst (λ (n : ℕ). i < n) (sym (length-map items room)) within in
    rw (size, map-set room items i after) (elim (cases_eq (t % length (map show items)) i) [
      | inl own ↦ rw own (subst (λ (n : ℕ). 0 < n) (sym (get_or-set_same (map room items) i (room after) 0 inside)) some)
      | inr other ↦ subst (λ (n : ℕ). 0 < n) (sym (get_or-set_other (map room items) i (t % length (map show items)) (room after) 0 other)) before
    ])

-- the room for a time of the slot that was written
pub room_for-set_own : {S K : Type 0} (show : S → SlotOf K) (room : S → ℕ) (items : List S) (k i t : ℕ) (after : S) → i < length items → i ≡ t % length items → 0 < room after
    → 0 < room_for (record { slots = map show (set items i after); rooms = map room (set items i after); per_time = k }) t
room_for-set_own show room items k i t after within place some =
    let size : length (map show (set items i after)) ≡ length items = length-map (set items i after) show ∙ length-set items i after in
    let inside : i < length (map room items) = subst (λ (n : ℕ). i < n) (sym (length-map items room)) within in
    rw (size, ← place, map-set room items i after) (subst (λ (n : ℕ). 0 < n) (sym (get_or-set_same (map room items) i (room after) 0 inside)) some)

-- the room for a time of a slot other than the one that was written
pub room_for-set_other : {S K : Type 0} (show : S → SlotOf K) (room : S → ℕ) (items : List S) (k i t : ℕ) (after : S) → t % length (map show items) ≢ i
    → room_for (record { slots = map show (set items i after); rooms = map room (set items i after); per_time = k }) t ≡ room_for (record { slots = map show items; rooms = map room items; per_time = k }) t
room_for-set_other show room items k i t after other =
    let size : length (map show (set items i after)) ≡ length (map show items) = length-map (set items i after) show ∙ length-set items i after ∙ sym (length-map items show) in
    rw (size, map-set room items i after) (get_or-set_other (map room items) i (t % length (map show items)) (room after) 0 other)

-- a window holds at most n times k entries
pub held_count-le : {K : Type 0} (n k : ℕ) (slots : List (SlotOf K)) → IsWindow n k slots → length slots ≡ n → held_count slots ≤ n * k
held_count-le {K} n k slots is size = subst (λ (m : ℕ). held_count slots ≤ m * k) size (sum_by-le (λ (s : SlotOf K). length s.held) k slots is.each)

-- and so it holds at most 4,294,967,296 entries
pub held_count-maximum : {K : Type 0} (n k : ℕ) (slots : List (SlotOf K)) → IsWindow n k slots → length slots ≡ n → held_count slots ≤ 4294967296
held_count-maximum {K} n k slots is size =
    let le = held_count-le n k slots is size in
    let by_k : n * k ≤ n * 65536 = mul-le-mul_left n is.max_of_time in
    omega arith

-- how many entries slots in memory hold
pub held_count-map : {S K : Type 0} (show : S → SlotOf K) (items : List S) → held_count (map show items) ≡ sum_by (λ s. length (show s).held) items
held_count-map {S} {K} show items = fold-map (λ (a : ℕ) (s : SlotOf K). a + length s.held) show 0 items

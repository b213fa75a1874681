-- All slots of a window, and those of them that are in memory.
use Rattle.serf_window.proofs.Names.{List, [], ap, arith, get_or, inl, inr, length, map, refl, replicate, set, subst, suc, sum_by, sym, zero, ℕ, ◌%◌, ◌++◌, ◌+◌, ◌-◌, ◌<◌, ◌∙◌, ◌∷◌, ◌≡◌, ◌≢◌, ◌≤◌, map-set_same, cases_lt, append_assoc, get_or-append_right, get_or-map, get_or-replicate, get_or-set_same, get_or_append_left, get_or_default, get_or_past, length-map, length-replicate, length-set, replicate-append-replicate, set-append_left, sum_by-replicate, sum_by-append, range_with_len, unused_slot, TimeSlot, all_slots, room_in, slot_view, SlotOf, TimedEntry, WindowOf, empty_slot, held_count, room_for, slot_after, slot_for, slot_of, slots_after, slots_of}
use Rattle.std.proofs.lemmas.List.{length-append}
use Rattle.serf_window.proofs.WindowLemmas.{held_count-map, room_for-set, room_for-set_other, slot_for-map, slots_after-map}

pub length-all_slots : {K : Type 0} (n : ℕ) (made : List (TimeSlot K)) → length made ≤ n → length (all_slots n made) ≡ n
length-all_slots {K} n made le = omega (arith, length-append made (replicate (n - length made) unused_slot), length-replicate (n - length made) (unused_slot {K = K}))

-- the slot at a place
pub all_slots-at : {K : Type 0} (n i : ℕ) (made : List (TimeSlot K)) (d : TimeSlot K) → i < n → get_or (all_slots n made) i d ≡ get_or made i unused_slot
all_slots-at {K} n i made d within = elim (cases_lt i (length made)) [
  | inl lt ↦ get_or_append_left made (replicate (n - length made) unused_slot) d i lt ∙ get_or_default made i d unused_slot lt
  | inr ge ↦ get_or-append_right made (replicate (n - length made) unused_slot) (length made) i d refl ge
      ∙ get_or-replicate (n - length made) (i - length made) unused_slot d (omega arith) ∙ sym (get_or_past made i unused_slot ge)
]

-- a slot that is in memory was written
pub all_slots-set : {K : Type 0} (n i : ℕ) (made : List (TimeSlot K)) (slot : TimeSlot K) → i < length made → all_slots n (set made i slot) ≡ set (all_slots n made) i slot
all_slots-set n i made slot within =
    ap (λ m. set made i slot ++ replicate (n - m) unused_slot) (length-set made i slot) ∙ sym (set-append_left made (replicate (n - length made) unused_slot) i slot within)

-- empty slots were made
pub all_slots-more : {K : Type 0} (n k : ℕ) (made : List (TimeSlot K)) → length made + k ≤ n → all_slots n (made ++ replicate k unused_slot) ≡ all_slots n made
all_slots-more {K} n k made le =
    let size : length (made ++ replicate k unused_slot) ≡ length made + k = omega (arith, length-append made (replicate k unused_slot), length-replicate k (unused_slot {K = K})) in
    ap (λ m. (made ++ replicate k unused_slot) ++ replicate (n - m) unused_slot) size
    ∙ append_assoc made (replicate k unused_slot) (replicate (n - (length made + k)) unused_slot)
    ∙ ap (λ l. made ++ l) (replicate-append-replicate k (n - (length made + k)) unused_slot ∙ ap (λ m. replicate m unused_slot) (omega arith))

-- all slots together hold what the slots in memory hold
pub all_slots-held : {K : Type 0} (n : ℕ) (made : List (TimeSlot K)) → sum_by (λ slot. length slot.held.items) made ≡ held_count (map slot_view (all_slots n made))
all_slots-held {K} n made =
    let none = sum_by-replicate (λ (slot : TimeSlot K). length slot.held.items) (n - length made) unused_slot in
    let parts = sum_by-append (λ (slot : TimeSlot K). length slot.held.items) made (replicate (n - length made) unused_slot) in
    omega (arith, none, parts, held_count-map slot_view (all_slots n made))

-- what the slot of a time holds
pub slot_for-made : {K : Type 0} (n i t : ℕ) (made : List (TimeSlot K)) → length made ≤ n → i < n → i ≡ t % n → slot_for (map slot_view (all_slots n made)) t ≡ slot_view (get_or made i unused_slot)
slot_for-made {K} n i t made le within place =
    let size = length-all_slots n made le in
    let inside : i < length (all_slots n made) = omega arith in
    let own : i ≡ t % length (all_slots n made) = place ∙ ap (λ m. t % m) (sym size) in
    slot_for-map slot_view (all_slots n made) i t (get_or (all_slots n made) i unused_slot) inside own (get_or_default (all_slots n made) i unused_slot (get_or (all_slots n made) i unused_slot) inside)
    ∙ ap slot_view (all_slots-at n i made unused_slot within)

none_from : {K : Type 0} (m n k : ℕ) → map slot_view (replicate m (unused_slot {K = K})) ≡ map (slot_of n []) (range_with_len k m)
none_from zero n k = refl
none_from {K} (suc m) n k = ap (λ (l : List (SlotOf K)). empty_slot ∷ l) (none_from m n (k + 1))

-- if no slot is in memory, nothing has entered
pub all_slots-none : {K : Type 0} (n : ℕ) → map slot_view (all_slots {K = K} n []) ≡ slots_of n []
all_slots-none {K} n = ap (λ m. map slot_view (replicate m (unused_slot {K = K}))) (omega arith) ∙ none_from n n 0

-- A window, as contracts see it
abbrev pub shown : {K : Type 0} → ℕ → ℕ → List (TimeSlot K) → WindowOf K
shown n k made = record { slots = map slot_view (all_slots n made); rooms = map room_in (all_slots n made); per_time = k }

length-shown : {K : Type 0} (n : ℕ) (made : List (TimeSlot K)) → length made ≤ n → length (map slot_view (all_slots n made)) ≡ n
length-shown n made le = length-map (all_slots n made) slot_view ∙ length-all_slots n made le

-- the room for a time
pub room_for-made : {K : Type 0} (n k i t : ℕ) (made : List (TimeSlot K)) → length made ≤ n → i < n → i ≡ t % n → room_for (shown n k made) t ≡ (get_or made i unused_slot).held.room
room_for-made {K} n k i t made le within place =
    let inside : i < length (all_slots n made) = omega (arith, length-all_slots n made le) in
    ap (λ m. get_or (map room_in (all_slots n made)) (t % m) 0) (length-shown n made le) ∙ ap (λ j. get_or (map room_in (all_slots n made)) j 0) (sym place)
    ∙ get_or-map room_in (all_slots n made) i unused_slot 0 inside ∙ ap (λ (s : TimeSlot K). s.held.room) (all_slots-at n i made unused_slot within)

-- a slot that isn't in memory has no room
pub room_for-past : {K : Type 0} (n k i t : ℕ) (made : List (TimeSlot K)) → length made ≤ n → i < n → i ≡ t % n → length made ≤ i → room_for (shown n k made) t ≡ 0
room_for-past {K} n k i t made le within place past = room_for-made n k i t made le within place ∙ ap (λ (s : TimeSlot K). s.held.room) (get_or_past made i unused_slot past)

-- a slot that has room is in memory
pub is_made : {K : Type 0} (n k i t : ℕ) (made : List (TimeSlot K)) → length made ≤ n → i < n → i ≡ t % n → 0 < room_for (shown n k made) t → i < length made
is_made {K} n k i t made le within place some = elim (cases_lt i (length made)) [
  | inl lt ↦ lt
  | inr ge ↦ absurd (let none = room_for-past n k i t made le within place ge in omega arith)
]

-- the room is the same if all slots are the same
pub room_for-same : {K : Type 0} (n k t : ℕ) (before made : List (TimeSlot K)) → all_slots n made ≡ all_slots n before → room_for (shown n k made) t ≡ room_for (shown n k before) t
room_for-same {K} n k t before made same = ap (λ (l : List (TimeSlot K)). room_for (record { slots = map slot_view l; rooms = map room_in l; per_time = k }) t) same

-- an entry enters a slot that is in memory
pub slots_after-made : {K : Type 0} (n i : ℕ) (e : TimedEntry K) (made : List (TimeSlot K)) (slot after : TimeSlot K) → length made ≤ n → i < length made → i ≡ e.time % n → slot ≡ get_or made i slot
    → slot_view after ≡ slot_after (slot_view slot) e → map slot_view (all_slots n (set made i after)) ≡ slots_after (map slot_view (all_slots n made)) e
slots_after-made {K} n i e made slot after le within place at becomes =
    let size = length-all_slots n made le in
    let inside : i < length (all_slots n made) = omega arith in
    let own : i ≡ e.time % length (all_slots n made) = place ∙ ap (λ m. e.time % m) (sym size) in
    let read : slot ≡ get_or (all_slots n made) i slot = at ∙ sym (get_or_append_left made (replicate (n - length made) unused_slot) slot i within) in
    ap (map slot_view) (all_slots-set n i made after within) ∙ slots_after-map slot_view (all_slots n made) i e slot after inside own read becomes

-- writing another slot doesn't change the room
pub room_for-other : {K : Type 0} (n k i t : ℕ) (made : List (TimeSlot K)) (after : TimeSlot K) → length made ≤ n → i < length made → t % n ≢ i → room_for (shown n k (set made i after)) t ≡ room_for (shown n k made) t
room_for-other {K} n k i t made after le within other =
    subst (λ (l : List (TimeSlot K)). room_for (record { slots = map slot_view l; rooms = map room_in l; per_time = k }) t ≡ room_for (shown n k made) t) (sym (all_slots-set n i made after within))
    (room_for-set_other slot_view room_in (all_slots n made) k i t after (λ q. other (ap (λ m. t % m) (sym (length-shown n made le)) ∙ q)))

-- a slot got more room
pub slots-roomier : {K : Type 0} (n i : ℕ) (before made : List (TimeSlot K)) (slot after : TimeSlot K) → all_slots n made ≡ all_slots n before → i < length made → slot ≡ get_or made i slot → slot_view after ≡ slot_view slot
    → map slot_view (all_slots n (set made i after)) ≡ map slot_view (all_slots n before)
slots-roomier {K} n i before made slot after same within at shows =
    let read : slot ≡ get_or (all_slots n made) i slot = at ∙ sym (get_or_append_left made (replicate (n - length made) unused_slot) slot i within) in
    ap (map slot_view) (all_slots-set n i made after within) ∙ map-set_same slot_view (all_slots n made) i after slot (shows ∙ ap slot_view read) ∙ ap (map slot_view) same

pub room_for-own : {K : Type 0} (n k i t : ℕ) (made : List (TimeSlot K)) (after : TimeSlot K) → length made ≤ n → i < length made → i ≡ t % n → 0 < after.held.room → 0 < room_for (shown n k (set made i after)) t
room_for-own {K} n k i t made after le within place some =
    let size = length-set made i after in
    subst (λ (r : ℕ). 0 < r) (sym (room_for-made n k i t (set made i after) (omega arith) (omega arith) place ∙ ap (λ (s : TimeSlot K). s.held.room) (get_or-set_same made i after unused_slot within))) some

pub room_for-kept : {K : Type 0} (n k i t : ℕ) (before made : List (TimeSlot K)) (after : TimeSlot K) → all_slots n made ≡ all_slots n before → length made ≤ n → i < length made → 0 < after.held.room
    → 0 < room_for (shown n k before) t → 0 < room_for (shown n k (set made i after)) t
room_for-kept {K} n k i t before made after same le within some room =
    let inside : i < length (all_slots n made) = omega (arith, length-all_slots n made le) in
    subst (λ (l : List (TimeSlot K)). 0 < room_for (record { slots = map slot_view l; rooms = map room_in l; per_time = k }) t) (sym (all_slots-set n i made after within))
    (room_for-set slot_view room_in (all_slots n made) k i t after inside some
    (subst (λ (l : List (TimeSlot K)). 0 < room_for (record { slots = map slot_view l; rooms = map room_in l; per_time = k }) t) (sym same) room))

-- Slots that were never used, after those in memory.
use Rattle.serf_wire.proofs.Names.{Bool, List, Some, [], arith, false, length, map, refl, replicate, slice_get, suc, true, zero, ℕ, ◌++◌, ◌-◌, ◌<◌, ◌||◌, ◌∙◌, ◌∷◌, ◌≡◌, ◌≤◌, list_all-append, list_any-append, list_all, list_any, slots_borrowed, unused_slot, BorrowedSlots, TimeSlot}

any_none : {X : Type 0} (test : X → Bool) (n : ℕ) (x : X) → test x ≡ false → list_any test (replicate n x) ≡ false
any_none test zero x fails = refl
any_none test (suc n) x fails = rw (fails, any_none test n x fails) refl

all_same : {X : Type 0} (test : X → Bool) (n : ℕ) (x : X) → test x ≡ true → list_all test (replicate n x) ≡ true
all_same test zero x holds = refl
all_same test (suc n) x holds = rw (holds, all_same test n x holds) refl

or_false : (b : Bool) → (b || false) ≡ b
or_false true = refl
or_false false = refl

-- a test that is false for an unused slot is true for some slot if and only if it is true for one in memory
pub any_borrowed : {K : Type 0} (test : TimeSlot K → Bool) (slots : BorrowedSlots K) → test unused_slot ≡ false → list_any test (slots_borrowed slots) ≡ list_any test slots.used.now
any_borrowed test slots fails = list_any-append test slots.used.now (replicate slots.unused unused_slot) ∙ rw (any_none test slots.unused unused_slot fails) (or_false (list_any test slots.used.now))

-- a test that is true for an unused slot and for each slot in memory is true for all slots
pub all_borrowed : {K : Type 0} (test : TimeSlot K → Bool) (slots : BorrowedSlots K) → test unused_slot ≡ true → list_all test slots.used.now ≡ true → list_all test (slots_borrowed slots) ≡ true
all_borrowed test slots holds used = list_all-append test slots.used.now (replicate slots.unused unused_slot) ∙ rw (used, all_same test slots.unused unused_slot holds) refl

get_same : {X Y : Type 0} (f : X → Y) (n i : ℕ) (x : X) → i < n → slice_get (map f (replicate n x)) i ≡ Some (f x)
get_same f zero i x within = absurd (omega arith)
get_same f (suc n) zero x within = refl
get_same f (suc n) (suc i) x within = get_same f n i x (omega arith)

-- the slot at an index after those in memory
pub get_after : {X Y : Type 0} (f : X → Y) (xs : List X) (n i : ℕ) (x : X) → length xs ≤ i → i - length xs < n → slice_get (map f (xs ++ replicate n x)) i ≡ Some (f x)
get_after f [] n i x past within = get_same f n i x (omega arith)
get_after f (y ∷ ys) n zero x past within = absurd (omega arith)
get_after f (y ∷ ys) n (suc i) x past within = get_after f ys n i x (omega arith) (omega arith)

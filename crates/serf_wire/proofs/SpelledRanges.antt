-- The numbers of a message that a packet spells are in range.
use Rattle.serf_wire.proofs.Names.{Bool, List, None, Ok, Option, Some, [], arith, cond, false, nat_le, nat_lt, negsuc, pos, refl, subst, sym, true, ℕ, ℤ, ◌<◌, ◌∷◌, ◌≡◌, ◌≤◌, leb-true, cond_some, same_Some, AllByRecursion, max_clock, Tree, array, flag, int, nil, pairs, raw, item_list, pair_list, raw_of, Below, decoded, all, both, event_body, field, fits, in_front, list, number, raw_keys, signed, slot, sole, status, status_time, time, up_to, values_of, class_of, Message, push_pull, query, query_response, user_event, InRange, IsTimed, SlotContent, empty, held, HasFields, Spells, SpellsAfter, Class, MessageType}
use Rattle.std.specs.Prelude.{codes}
use Rattle.serf_wire.specs.declared.layout.MessageType.TheVariants as types
use Rattle.serf_wire.specs.declared.layout.Class.TheVariants as classes
use Rattle.serf_wire.proofs.Packets.{decoded_spelled}

-- ---- what is true of the meaning of each value is true of what is made from them

sole_has : {A : Type 0} (P : A → Type 0) (kind : Tree → Option A) → ((v : Tree) (x : A) → kind v ≡ Some x → P x) → (vs : List Tree) (x : A) → sole kind vs ≡ Some x → P x
sole_has P kind each [] x e = each (nil 0) x e
sole_has P kind each (v ∷ []) x e = each v x e
sole_has P kind each (v ∷ w ∷ vs) x e = absurd (cc e)

pub both_has : {A B C : Type 0} (P : C → Type 0) (make : A → B → C) (o : Option A) (p : Option B) (x : C) → ((a : A) (b : B) → o ≡ Some a → p ≡ Some b → P (make a b)) → both make o p ≡ Some x → P x
both_has P make None p x each e = absurd (cc e)
both_has P make (Some a) None x each e = absurd (cc e)
both_has P make (Some a) (Some b) x each e = subst P (same_Some (make a b) x e) (each a b refl refl)

front_has : {A : Type 0} (P : A → Type 0) (o : Option A) (os : Option (List A)) (xs : List A) → ((x : A) → o ≡ Some x → P x) → ((ys : List A) → os ≡ Some ys → AllByRecursion P ys) → in_front o os ≡ Some xs → AllByRecursion P xs
front_has P None os xs one more e = absurd (cc e)
front_has P (Some x) None xs one more e = absurd (cc e)
front_has P (Some x) (Some ys) xs one more e = subst (AllByRecursion P) (same_Some (x ∷ ys) xs e) (one x refl, more ys refl)

all_has : {X A : Type 0} (P : A → Type 0) (item : X → Option A) → ((v : X) (x : A) → item v ≡ Some x → P x) → (vs : List X) (xs : List A) → all item vs ≡ Some xs → AllByRecursion P xs
all_has P item each [] xs e = subst (AllByRecursion P) (same_Some [] xs e) tt
all_has P item each (v ∷ vs) xs e = front_has P (item v) (all item vs) xs (each v) (all_has P item each vs) e

list_has : {A : Type 0} (P : A → Type 0) (item : Tree → Option A) → ((v : Tree) (x : A) → item v ≡ Some x → P x) → (v : Tree) (xs : List A) → list item v ≡ Some xs → AllByRecursion P xs
list_has P item each (nil p) xs e = subst (AllByRecursion P) (same_Some [] xs e) tt
list_has P item each (flag p b) xs e = absurd (cc e)
list_has P item each (int p z) xs e = absurd (cc e)
list_has P item each (raw p t) xs e = absurd (cc e)
list_has P item each (array p vs) xs e = all_has P item each (item_list vs) xs e
list_has P item each (pairs p ps) xs e = absurd (cc e)

-- ---- numbers

up_to_within : (max n : ℕ) (z : ℤ) → up_to max z ≡ Some n → n ≤ max
up_to_within max n (negsuc k) e = absurd (cc e)
up_to_within max n (pos m) e = let at = cond_some (nat_le m max) m n e in subst (λ (k : ℕ). k ≤ max) at.1 (leb-true m max at.0)

number_within : (max : ℕ) (v : Tree) (n : ℕ) → number max v ≡ Some n → n ≤ max
number_within max (nil p) n e = let same = same_Some 0 n e in omega arith
number_within max (flag p b) n e = absurd (cc e)
number_within max (int p z) n e = up_to_within max n z e
number_within max (raw p s) n e = absurd (cc e)
number_within max (array p vs) n e = absurd (cc e)
number_within max (pairs p ps) n e = absurd (cc e)

field_within : (max n : ℕ) (name : List ℕ) (ps : List (Tree × Tree)) → field (number max) name ps ≡ Some n → n ≤ max
field_within max n name ps e = sole_has (λ (k : ℕ). k ≤ max) (number max) (number_within max) (values_of name ps) n e

-- a signed integer
abbrev IsFitting : ℤ → Type 0
IsFitting z = fits z ≡ Some z

fits_again : (z t : ℤ) → fits z ≡ Some t → IsFitting t
fits_again (pos n) t e = let at = cond_some (nat_lt n 9223372036854775808) (pos n) t e in subst IsFitting at.1 (rw (at.0) refl)
fits_again (negsuc k) t e = let at = cond_some (nat_lt k 9223372036854775808) (negsuc k) t e in subst IsFitting at.1 (rw (at.0) refl)

signed_fits : (v : Tree) (t : ℤ) → signed v ≡ Some t → IsFitting t
signed_fits (nil p) t e = subst IsFitting (same_Some (pos 0) t e) refl
signed_fits (flag p b) t e = absurd (cc e)
signed_fits (int p z) t e = fits_again z t e
signed_fits (raw p s) t e = absurd (cc e)
signed_fits (array p vs) t e = absurd (cc e)
signed_fits (pairs p ps) t e = absurd (cc e)

-- ---- times

abbrev HasTime : List ℕ × ℕ → Type 0
HasTime p = p.1 < 18446744073709551616

status_time_timed : (p : Tree × Tree) (x : List ℕ × ℕ) → status_time p ≡ Some x → HasTime x
status_time_timed p x e = both_has HasTime (λ name time. (name, time)) (raw_of p.0) (number max_clock p.1) x (λ name time named timed. let le = number_within max_clock p.1 time timed in omega arith) e

status_timed : (v : Tree) (xs : List (List ℕ × ℕ)) → status v ≡ Some xs → AllByRecursion HasTime xs
status_timed (nil p) xs e = subst (AllByRecursion HasTime) (same_Some [] xs e) tt
status_timed (flag p b) xs e = absurd (cc e)
status_timed (int p z) xs e = absurd (cc e)
status_timed (raw p s) xs e = absurd (cc e)
status_timed (array p vs) xs e = absurd (cc e)
status_timed (pairs p ps) xs e = all_has HasTime status_time status_time_timed (pair_list ps) xs e

slot_timed : (v : Tree) (s : SlotContent) → slot v ≡ Some s → IsTimed s
slot_timed (nil p) s e = subst IsTimed (same_Some empty s e) tt
slot_timed (flag p b) s e = absurd (cc e)
slot_timed (int p z) s e = absurd (cc e)
slot_timed (raw p t) s e = absurd (cc e)
slot_timed (array p vs) s e = absurd (cc e)
slot_timed (pairs p ps) s e = by (raw_keys (pair_list ps)) e
  where
    by : (b : Bool) → cond b (both held (field time (codes "LTime") (pair_list ps)) (field (list event_body) (codes "Events") (pair_list ps))) None ≡ Some s → IsTimed s
    by true is =
        both_has IsTimed held (field time (codes "LTime") (pair_list ps)) (field (list event_body) (codes "Events") (pair_list ps)) s
        (λ t es timed with. let le = field_within 18446744073709551614 t (codes "LTime") (pair_list ps) timed in omega arith) is
    by false is = absurd (cc is)

-- ---- messages

fields_ranged : (t : MessageType) (m : Message) (ps : List (Tree × Tree)) → HasFields t m ps → InRange m
fields_ranged types.UserEvent (user_event e) ps h = let le = field_within 18446744073709551614 e.time (codes "LTime") ps h.time in omega arith
fields_ranged types.Query (query q) ps h =
    let time = field_within 18446744073709551614 q.time (codes "LTime") ps h.time in
    let id = field_within 0xffff_ffff q.id (codes "ID") ps h.id in
    let port = field_within 0xffff q.port (codes "Port") ps h.port in
    let flags = field_within 0xffff_ffff q.flags (codes "Flags") ps h.flags in
    let relay_factor = field_within 0xff q.relay_factor (codes "RelayFactor") ps h.relay_factor in
    record {
      time = omega arith;
      id = omega arith;
      port = omega arith;
      flags = omega arith;
      relay_factor = omega arith;
      timeout = sole_has IsFitting signed signed_fits (values_of (codes "Timeout") ps) q.timeout h.timeout;
    }
fields_ranged types.QueryResponse (query_response r) ps h =
    let time = field_within max_clock r.time (codes "LTime") ps h.time in
    let id = field_within 0xffff_ffff r.id (codes "ID") ps h.id in
    let flags = field_within 0xffff_ffff r.flags (codes "Flags") ps h.flags in
    record { time = omega arith; id = omega arith; flags = omega arith }
fields_ranged types.PushPull (push_pull m) ps h =
    let member_clock = field_within max_clock m.member_clock (codes "LTime") ps h.member_clock in
    let event_clock = field_within max_clock m.event_clock (codes "EventLTime") ps h.event_clock in
    let query_clock = field_within max_clock m.query_clock (codes "QueryLTime") ps h.query_clock in
    record {
      member_clock = omega arith;
      status = sole_has (AllByRecursion HasTime) status status_timed (values_of (codes "StatusLTimes") ps) m.status h.status;
      event_clock = omega arith;
      slots = sole_has (AllByRecursion IsTimed) (list slot) (list_has IsTimed slot slot_timed) (values_of (codes "Events") ps) m.slots h.slots;
      query_clock = omega arith;
    }
fields_ranged _ _ ps h = absurd h

after_ranged : (class : Class) (kind : ℕ) (bytes : List ℕ) (m : Message) → class_of kind ≡ class → SpellsAfter class kind m bytes → InRange m
after_ranged (classes.Read message) kind bytes m is s = fields_ranged message m (pair_list s.0) s.2
after_ranged classes.Foreign kind bytes m is s = subst InRange (sym s) is
after_ranged classes.Unknown kind bytes m is s = absurd s

pub spelled_ranged : (packet : List ℕ) (m : Message) → Spells m packet → InRange m
spelled_ranged [] m s = absurd s
spelled_ranged (kind ∷ bytes) m s = after_ranged (class_of kind) kind bytes m refl s

pub decoded_ranged : Below → (packet : List ℕ) (m : Message) → decoded packet ≡ Ok m → InRange m
decoded_ranged below packet m e = spelled_ranged packet m (decoded_spelled below packet m e)
